-- Texts of keys, and what they come to.
use Rattle.std.specs.Prelude.{◌≡◌, ℕ, List, [], ◌∷◌, map, None, Ok, Err, codes, refl}
use Rattle.wsm_record.specs.Name.{is_reserved}
use Rattle.wsm_deal.specs.Deal.{Sharing}
use Rattle.wsm_deal.specs.Keys.{keys_a_part, keys_behind, keys_of_text, lines_of, sharing_for, sharing_of}
use Rattle.wsm_deal.specs.PartCount.{part_count}
use Rattle.wsm_deal.specs.Runs.{block_of}
use Rattle.wsm_deal.specs.declared.shares.SharesRefusal.TheVariants.{BadName, BadNumber, DuplicateName, NoNames, TooFewParts, TooManyParts}

abbrev five : Sharing
five = record { names = codes "e" ∷ codes "d" ∷ codes "c" ∷ codes "b" ∷ codes "a" ∷ []; block = 2 }

-- five keys for three parts: two for each of the first, in the order of the lines, and one for the last
five_keys : sharing_of (codes "e\nd\nc\nb\na\n") 3 ≡ Ok five
unfolding lines_of keys_behind is_reserved
five_keys = refl

their_blocks : map (block_of five) (0 ∷ 1 ∷ 2 ∷ 3 ∷ []) ≡ (codes "e" ∷ codes "d" ∷ []) ∷ (codes "c" ∷ codes "b" ∷ []) ∷ (codes "a" ∷ []) ∷ [] ∷ []
their_blocks = refl

-- the last line may have no line feed
no_last_line_feed : keys_of_text (codes "k1\nk2") ≡ keys_of_text (codes "k1\nk2\n")
unfolding lines_of keys_behind is_reserved
no_last_line_feed = refl

-- a line without a byte is a line, and no name
an_empty_line : keys_of_text (codes "k1\n\nk2\n") ≡ Err (BadName 2)
unfolding lines_of keys_behind is_reserved
an_empty_line = refl

-- so is one that ends at a carriage return, one with a word of query texts, and one that begins with a digit
a_carriage_return : keys_of_text (codes "k1\r\n") ≡ Err (BadName 1)
unfolding lines_of keys_behind is_reserved
a_carriage_return = refl

a_reserved_word : keys_of_text (codes "k1\nFIELD\n") ≡ Err (BadName 2)
unfolding lines_of keys_behind is_reserved
a_reserved_word = refl

a_digit_first : keys_of_text (codes "k1\nk2\n3k") ≡ Err (BadName 3)
unfolding lines_of keys_behind is_reserved
a_digit_first = refl

-- the first fault is told
a_name_again : keys_of_text (codes "k1\nk2\nk1\n3k\n") ≡ Err (DuplicateName 3)
unfolding lines_of keys_behind is_reserved
a_name_again = refl

no_line : sharing_of [] 3 ≡ Err NoNames
unfolding lines_of keys_behind
no_line = refl

-- the faults of keys come in front of that of a number that isn't known
faults_first : map (λ (text : List ℕ). sharing_for text None) (codes "k1\n3k\n" ∷ [] ∷ codes "k1\n" ∷ []) ≡ Err (BadName 2) ∷ Err NoNames ∷ Err BadNumber ∷ []
unfolding lines_of keys_behind is_reserved
faults_first = refl

-- a thousand keys are the most of a part, and five keys in blocks of two fill three parts
parts_for_keys : map (λ (parts : ℕ). keys_a_part 2001 parts) (2 ∷ 3 ∷ []) ≡ Err (TooFewParts 3) ∷ Ok 667 ∷ []
parts_for_keys = refl

parts_for_few : map (λ (parts : ℕ). keys_a_part 5 parts) (0 ∷ 1 ∷ 3 ∷ 4 ∷ 5 ∷ 6 ∷ []) ≡ Err (TooFewParts 1) ∷ Ok 5 ∷ Ok 2 ∷ Err (TooManyParts 3) ∷ Ok 1 ∷ Err (TooManyParts 5) ∷ []
parts_for_few = refl

as_many_parts : part_count five ≡ 3
as_many_parts = refl
