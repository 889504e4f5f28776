-- Values with their texts, computed.
use Rattle.std.specs.Prelude.{◌≡◌, ℕ, List, [], ◌∷◌, None, Some, codes, refl, true, pos, negsuc}
use Rattle.std.specs.Fmt.{digits}
use Rattle.wsm_record.specs.Event.{Event, Record, Watermark}
use Rattle.wsm_record.specs.declared.event.Value.TheVariants.{Int, Bool, Enum}
use Rattle.wsm_saved.specs.Numbers.{number_text, read_flag, read_short, read_signed, signed_text}
use Rattle.wsm_saved.specs.Lists.{list_text, option_text}
use Rattle.wsm_saved.specs.Events.{event_text, read_event, read_record, read_watermark}

abbrev a_record : Event
a_record = Record (Some 3) (negsuc 0) (Int (pos 5) ∷ Bool true ∷ Enum 7 ∷ [])

abbrev a_watermark : Event
a_watermark = Watermark None (pos 60)

its_text : event_text a_record ≡ codes "0,1,3,18446744073709551615,3,0,5,1,1,2,7,"
unfolding digits number_text
its_text = refl

a_watermark_text : event_text a_watermark ≡ codes "1,0,60,"
unfolding digits number_text
a_watermark_text = refl

bytes : list_text number_text (codes "a,b") ≡ codes "3,97,44,98,"
unfolding digits number_text
bytes = refl

no_bytes : list_text number_text [] ≡ codes "0,"
unfolding digits number_text
no_bytes = refl

-- with what stands behind them
it_comes_back : read_event (codes "0,1,3,18446744073709551615,3,0,5,1,1,2,7,8,") ≡ Some (a_record, codes "8,")
unfolding read_record read_watermark
it_comes_back = refl

a_watermark_comes_back : read_event (codes "1,0,60,") ≡ Some (a_watermark, [])
unfolding read_record read_watermark
a_watermark_comes_back = refl

-- what is cut off, another kind, and numbers that don't fit
a_value_less : read_event (codes "0,1,3,18446744073709551615,3,0,5,1,1,") ≡ None
unfolding read_record read_watermark
a_value_less = refl

a_comma_less : read_event (codes "1,0,60") ≡ None
unfolding read_record read_watermark
a_comma_less = refl

another_kind : read_event (codes "2,0,60,") ≡ None
unfolding read_record read_watermark
another_kind = refl

no_truth : read_flag (codes "2,") ≡ None
no_truth = refl

too_great : read_short (codes "65536,") ≡ None
too_great = refl

the_least : read_signed (codes "9223372036854775808,") ≡ Some (negsuc 9223372036854775807, [])
the_least = refl
