-- Journals with what they are read as, computed.
use Rattle.std.specs.Prelude.{◌≡◌, [], ◌∷◌, None, Some, codes, refl}
use Rattle.std.specs.Fmt.{digits}
use Rattle.wsm_sums.specs.Crc.{bit_step, byte_step, rest_after, sum_behind}
use Rattle.wsm_journal.specs.Text.{Entry, head_text, entry_head, entry_sum, mark_text, record_text, journal_text}
use Rattle.wsm_journal.specs.Reading.{mark_of, whole_at, next_whole, read_from, read_journal, reading_with, number_of}
use Rattle.wsm_journal.specs.declared.reading.Behind.TheVariants.{Nothing, Torn, Damage}

abbrev two_rows : Entry
two_rows = record { number = 812; lines = 1; rows = codes "w,60\nr,acme,70,5\n"; position = codes "8:40" }

abbrev no_row : Entry
no_row = record { number = 813; lines = 0; rows = []; position = codes "8:41" }

abbrev one_row : Entry
one_row = record { number = 814; lines = 1; rows = codes "unread\n"; position = [] }

its_text : record_text two_rows ≡ codes "w,60\nr,acme,70,5\nat,812,17,1,168801797,8:40\n"
unfolding digits bit_step byte_step rest_after sum_behind head_text entry_head entry_sum mark_text record_text
its_text = refl

three_texts : journal_text (two_rows ∷ no_row ∷ one_row ∷ []) ≡ codes "w,60\nr,acme,70,5\nat,812,17,1,168801797,8:40\nat,813,0,0,2447198702,8:41\nunread\nat,814,7,1,91072110,\n"
unfolding digits bit_step byte_step rest_after sum_behind head_text entry_head entry_sum mark_text record_text
three_texts = refl

three_records : read_journal (codes "w,60\nr,acme,70,5\nat,812,17,1,168801797,8:40\nat,813,0,0,2447198702,8:41\nunread\nat,814,7,1,91072110,\n")
    ≡ reading_with (two_rows ∷ no_row ∷ one_row ∷ []) 99 Nothing
unfolding bit_step byte_step rest_after sum_behind mark_of whole_at next_whole read_from
three_records = refl

no_text : read_journal [] ≡ reading_with [] 0 Nothing
unfolding read_from
no_text = refl

-- a last line whose end is missing, and one that is missing whole
a_line_cut_off : read_journal (codes "w,60\nr,acme,70,5\nat,812,17,1,168801797,8:40\nat,813,0,0,2447198702,8:4") ≡ reading_with (two_rows ∷ []) 44 Torn
unfolding bit_step byte_step rest_after sum_behind mark_of whole_at next_whole read_from
a_line_cut_off = refl

no_last_line : read_journal (codes "w,60\nr,acme,70,5\nat,812,17,1,168801797,8:40\nunread\n") ≡ reading_with (two_rows ∷ []) 44 Torn
unfolding bit_step byte_step rest_after sum_behind mark_of whole_at next_whole read_from
no_last_line = refl

-- one wrong byte in a record behind which another is whole
a_wrong_byte : read_journal (codes "w,60\nr,acme,70,6\nat,812,17,1,168801797,8:40\nat,813,0,0,2447198702,8:41\n") ≡ reading_with [] 0 Damage
unfolding bit_step byte_step rest_after sum_behind mark_of whole_at next_whole read_from
a_wrong_byte = refl

-- a line feed that is lost hides nothing
a_lost_line_feed : read_journal (codes "w,60\nr,acme,70,5\nat,812,17,1,168801797,8:40 unread\nat,814,7,1,91072110,\n") ≡ reading_with [] 0 Damage
unfolding bit_step byte_step rest_after sum_behind mark_of whole_at next_whole read_from
a_lost_line_feed = refl

-- a number that is left out is damage, one that comes again isn't
a_number_left_out : read_journal (codes "w,60\nr,acme,70,5\nat,812,17,1,168801797,8:40\nunread\nat,814,7,1,91072110,\n") ≡ reading_with (two_rows ∷ []) 44 Damage
unfolding bit_step byte_step rest_after sum_behind mark_of whole_at next_whole read_from
a_number_left_out = refl

a_number_again : read_journal (codes "at,813,0,0,2447198702,8:41\nat,813,0,0,2447198702,8:41\n") ≡ reading_with (no_row ∷ []) 27 Torn
unfolding bit_step byte_step rest_after sum_behind mark_of whole_at next_whole read_from
a_number_again = refl

-- of rows that don't end a line there is no record
a_line_within : read_journal (codes "w,60\nr,acme,70,5\nat,812,17,1,168801797,8:40\nxat,814,1,1,487392841,\n") ≡ reading_with (two_rows ∷ []) 44 Torn
unfolding bit_step byte_step rest_after sum_behind mark_of whole_at next_whole read_from
a_line_within = refl

-- numbers have no zeros in front, and 64 bits
a_zero : number_of (codes "0,x") ≡ Some (0, codes "x")
a_zero = refl

a_zero_in_front : number_of (codes "07,x") ≡ None
a_zero_in_front = refl

no_digit : number_of (codes ",x") ≡ None
no_digit = refl

the_greatest : number_of (codes "18446744073709551615,") ≡ Some (18446744073709551615, [])
the_greatest = refl

one_too_great : number_of (codes "18446744073709551616,") ≡ None
one_too_great = refl
