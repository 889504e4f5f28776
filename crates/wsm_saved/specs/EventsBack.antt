-- Values and events that were written come back.
use Rattle.std.proofs.Common.{◌≡◌, ◌∙◌, ℕ, ◌<◌, ◌^◌, List, ◌++◌, Option, Some, None, option_map, option_and_then, refl, ap, arith, append_assoc}
use Rattle.std.specs.Prelude.{ℤ, FitsSigned}
use Rattle.std.specs.Int.{w64}
use Rattle.wsm_record.specs.Event.{Event, Record, Watermark}
use Rattle.wsm_record.specs.declared.event.Value.{Value}
use Rattle.wsm_record.specs.declared.event.Value.TheVariants.{Int, Bool, Enum}
use Rattle.wsm_saved.specs.Numbers.{flag_text, number_text, read_short, read_word, signed_text}
use Rattle.wsm_saved.specs.Lists.{ListFits, ReadsBack, list_text}
use Rattle.wsm_saved.specs.Events.{EventFits, KeyFits, SourceFits, ValueFits, event_text, key_text, read_event, read_key, read_record, read_source, read_value, read_watermark, value_text}
use Rattle.wsm_saved.specs.Back.{below_back, flag_back, list_back, number_back, option_back, signed_back}

pub short_back : (n : ℕ) (rest : List ℕ) → n < 2 ^ 16 → read_short (number_text n ++ rest) ≡ Some (n, rest)
short_back n rest fits = below_back (2 ^ 16) n rest fits (omega arith)

short_reads_back : ReadsBack number_text read_short (λ n. n < 2 ^ 16)
short_reads_back = record { back = short_back }

pub word_back : (n : ℕ) (rest : List ℕ) → n < 2 ^ 32 → read_word (number_text n ++ rest) ≡ Some (n, rest)
word_back n rest fits = below_back (2 ^ 32) n rest fits (omega arith)

word_reads_back : ReadsBack number_text read_word (λ n. n < 2 ^ 32)
word_reads_back = record { back = word_back }

pub key_back : (key : Option ℕ) (rest : List ℕ) → KeyFits key → read_key (key_text key ++ rest) ≡ Some (key, rest)
key_back = option_back number_text read_word (λ n. n < 2 ^ 32) word_reads_back

pub source_back : (source : Option ℕ) (rest : List ℕ) → SourceFits source → read_source (key_text source ++ rest) ≡ Some (source, rest)
source_back = option_back number_text read_short (λ n. n < 2 ^ 16) short_reads_back

pub value_back : (v : Value) (rest : List ℕ) → ValueFits v → read_value (value_text v ++ rest) ≡ Some (v, rest)
value_back (Int z) rest fits = rw (append_assoc (number_text 0) (signed_text z) rest, number_back 0 (signed_text z ++ rest) (omega arith), signed_back z rest fits) refl
value_back (Bool b) rest fits = rw (append_assoc (number_text 1) (flag_text b) rest, number_back 1 (flag_text b ++ rest) (omega arith), flag_back b rest) refl
value_back (Enum n) rest fits = rw (append_assoc (number_text 2) (number_text n) rest, number_back 2 (number_text n ++ rest) (omega arith), short_back n rest fits) refl

pub value_reads_back : ReadsBack value_text read_value ValueFits
value_reads_back = record { back = value_back }

joined : (a b c d : List ℕ) → (a ++ (b ++ c)) ++ d ≡ a ++ (b ++ (c ++ d))
joined a b c d = simp append_assoc refl

record_back : (key : Option ℕ) (time : ℤ) (values : List Value) (rest : List ℕ) → EventFits (Record key time values)
    → read_record (key_text key ++ (signed_text time ++ (list_text value_text values ++ rest))) ≡ Some (Record key time values, rest)
unfolding read_record
record_back key time values rest fits =
    rw (key_back key (signed_text time ++ (list_text value_text values ++ rest)) fits.0, signed_back time (list_text value_text values ++ rest) fits.1, list_back value_text read_value ValueFits value_reads_back values rest fits.2) refl

watermark_back : (source : Option ℕ) (time : ℤ) (rest : List ℕ) → EventFits (Watermark source time)
    → read_watermark (key_text source ++ (signed_text time ++ rest)) ≡ Some (Watermark source time, rest)
unfolding read_watermark
watermark_back source time rest fits = rw (source_back source (signed_text time ++ rest) fits.0, signed_back time rest fits.1) refl

pub event_back : (e : Event) (rest : List ℕ) → EventFits e → read_event (event_text e ++ rest) ≡ Some (e, rest)
event_back (Record key time values) rest fits =
    let text : List ℕ = key_text key ++ (signed_text time ++ (list_text value_text values ++ rest)) in
    let is : event_text (Record key time values) ++ rest ≡ number_text 0 ++ text =
    append_assoc (number_text 0) (key_text key ++ (signed_text time ++ list_text value_text values)) rest
    ∙ ap (λ t. number_text 0 ++ t) (joined (key_text key) (signed_text time) (list_text value_text values) rest) in
    ap read_event is ∙ rw (number_back 0 text (omega arith)) (record_back key time values rest fits)
event_back (Watermark source time) rest fits =
    let text : List ℕ = key_text source ++ (signed_text time ++ rest) in
    let is : event_text (Watermark source time) ++ rest ≡ number_text 1 ++ text = joined (number_text 1) (key_text source) (signed_text time) rest in
    ap read_event is ∙ rw (number_back 1 text (omega arith)) (watermark_back source time rest fits)

pub event_reads_back : ReadsBack event_text read_event EventFits
event_reads_back = record { back = event_back }
