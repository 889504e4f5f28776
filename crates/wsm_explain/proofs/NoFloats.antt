-- All numbers that are told are whole ones.
use Rattle.std.proofs.Common.{◌≡◌, ℕ, zero, suc, Bool, true, false, ◌||◌, cond, List, [], ◌∷◌, ◌++◌, length, map, ℤ, pos, negsuc, Option, Some, None, refl}
use Rattle.std.specs.Prelude.{option_map, slice_index_or, take}
use Rattle.std.specs.List.{filter}
use Rattle.std.specs.Ordering.{int_eq}
use Rattle.std.specs.Str.{is_utf8}
use Rattle.serde_json.specs.Data.{Data, null, string}
use Rattle.serde_json.specs.View.{items_of}
use Rattle.serde_json.specs.Written.{has_float, items_have_float}
use Rattle.wsm_record.proofs.Lists.{or_left, or_right}
use Rattle.wsm_record.specs.Name.{reserved_words}
use Rattle.wsm_record.specs.Schema.{FieldType, Int, Truth, Enum, DeclaredField, Declared}
use Rattle.wsm_record.specs.declared.words.Mode.{Mode}
use Rattle.wsm_record.specs.declared.words.Form.{Form}
use Rattle.wsm_record.specs.declared.words.Kind.{Kind}
use Rattle.wsm_record.specs.declared.words.CellType.{CellType}
use Rattle.wsm_record.specs.declared.words.CellType.TheVariants as cells
use Rattle.wsm_windows.specs.declared.window.Shape.{Shape}
use Rattle.wsm_windows.specs.declared.window.Shape.TheVariants.{Fixed, Sliding, Session}
use Rattle.wsm_admission.specs.declared.clock.Clock.{Clock}
use Rattle.wsm_tokens.specs.declared.position.Position.{Position}
use Rattle.wsm_check.specs.declared.refusal.CheckFault.{CheckFault}
use Rattle.wsm_check.specs.declared.refusal.CheckFault.TheVariants.{Exceeds}
use Rattle.wsm_program.specs.declared.SectionId.TheVariants.{Where, Update, Fire}
use Rattle.wsm_program.specs.declared.program.Costs.{Costs}
use Rattle.wsm_program.specs.Program.{Header, Program}
use Rattle.wsm_interval.specs.declared.Interval.{Interval}
use Rattle.wsm_inputs.specs.declared.input.Input.{Input}
use Rattle.wsm_inputs.specs.declared.input.Input.TheVariants as input
use Rattle.wsm_inputs.specs.declared.end.InputRefusal.{InputRefusal}
use Rattle.wsm_inputs.specs.declared.end.InputRefusal.TheVariants as refusals
use Rattle.wsm_rules.specs.Costs.{needed}
use Rattle.wsm_rules.specs.Rules.{range}
use Rattle.wsm_verifier.specs.declared.places.Place.{Place}
use Rattle.wsm_verifier.specs.Places.{column_ranges, places_in}
use Rattle.wsm_explain.specs.declared.explaining.Judgement.{Judgement}
use Rattle.wsm_explain.specs.declared.explaining.Judgement.TheVariants.{Refused, Rejected, Accepted}
use Rattle.wsm_explain.specs.declared.parts.Span.{Span}
use Rattle.wsm_explain.specs.declared.ways.Way.{Way}
use Rattle.wsm_explain.specs.Json.{or_null, text_data, whole}
use Rattle.wsm_explain.specs.Declarations.{clock_data, field_data, firing_data, column_data, interval_data, range_data, trigger_data, typed_data, window_data}
use Rattle.wsm_explain.specs.Parts.{place_of, span_data, spans_of, text_in}
use Rattle.wsm_explain.specs.Standing.{candidates, may_stand, reserved_data, standing_data, tokens_from}
use Rattle.wsm_explain.specs.Ways.{way_data}
use Rattle.wsm_explain.specs.Program.{bare, bare_code, code_data, code_of, columns_data, columns_up_to, declares_data, kind_data, output_data, place_data, program_data, ranges_data, ranges_up_to}
use Rattle.wsm_explain.specs.Explained.{accepted_ranges, explained_data, fault_data, joins_data, joins_of, judged_data, limit_data, refusal_data, text_of, text_parts, text_sum_data}

both : (a b : Bool) → a ≡ false → b ≡ false → (a || b) ≡ false
both true b p q = p
both false b p q = q

listed : {A : Type 0} (f : A → Data) → ((x : A) → has_float (f x) ≡ false) → (xs : List A) → items_have_float (items_of (map f xs)) ≡ false
listed f h [] = refl
listed f h (x ∷ xs) = both _ _ (h x) (listed f h xs)

either_text : (b : Bool) (bytes : List ℕ) → has_float (cond b (string bytes) null) ≡ false
either_text true bytes = refl
either_text false bytes = refl

text_plain : (bytes : List ℕ) → has_float (text_data bytes) ≡ false
text_plain bytes = either_text (is_utf8 bytes) bytes

whole_plain : (n : ℤ) → has_float (whole n) ≡ false
whole_plain (pos n) = refl
whole_plain (negsuc n) = refl

range_plain : (lo hi : ℤ) → has_float (range_data lo hi) ≡ false
range_plain lo hi = both _ _ (whole_plain hi) (both _ _ (whole_plain lo) refl)

typed_plain : (name : List ℕ) (type : FieldType) → has_float (typed_data name type) ≡ false
typed_plain name (Int lo hi) = both _ _ (text_plain name) (both _ _ (range_plain lo hi) refl)
typed_plain name Truth = both _ _ (text_plain name) refl
typed_plain name (Enum names) = both _ _ (text_plain name) (both _ _ (listed text_data text_plain names) refl)

field_plain : (f : DeclaredField) → has_float (field_data f) ≡ false
field_plain f = typed_plain f.name f.type

clock_plain : (c : Clock) → has_float (clock_data c) ≡ false
clock_plain c = both _ _ (whole_plain c.lateness) (both _ _ (whole_plain c.records) (both _ _ (whole_plain c.skew) (both _ _ (whole_plain c.start) refl)))

window_plain : (shape : Shape) → has_float (window_data shape) ≡ false
window_plain (Fixed size) = both _ _ (whole_plain size) (both _ _ (whole_plain size) refl)
window_plain (Sliding size slide) = both _ _ (whole_plain size) (both _ _ (whole_plain slide) refl)
window_plain (Session gap) = both _ _ (whole_plain gap) refl

either_count : (b : Bool) (n : ℤ) → has_float (cond b null (whole n)) ≡ false
either_count true n = refl
either_count false n = whole_plain n

trigger_plain : (n : ℤ) → has_float (trigger_data n) ≡ false
trigger_plain n = either_count (int_eq n (pos 0)) n

firing_plain : (mode : Mode) (early late : ℤ) (form : Form) → has_float (firing_data mode early late form) ≡ false
firing_plain mode early late form = both _ _ (trigger_plain early) (both _ _ (trigger_plain late) refl)

maybe_plain : (x : Option Interval) → has_float (or_null interval_data x) ≡ false
maybe_plain None = refl
maybe_plain (Some x) = range_plain x.lo x.hi

column_plain : (t : CellType) (x : Option Interval) → has_float (column_data t x) ≡ false
column_plain cells.Int x = both _ _ (maybe_plain x) refl
column_plain cells.Bool x = refl
column_plain (cells.Enum e) x = refl

one_more : (ds : List Data) (d : Data) → items_have_float (items_of ds) ≡ false → has_float d ≡ false → items_have_float (items_of (ds ++ d ∷ [])) ≡ false
one_more [] d all one = both _ _ one refl
one_more (e ∷ ds) d all one = both _ _ (or_left (has_float e) _ all) (one_more ds d (or_right (has_float e) _ all) one)

columns_plain : (ts : List CellType) (xs : List (Option Interval)) (n : ℕ) → items_have_float (items_of (columns_up_to ts xs n)) ≡ false
columns_plain ts xs zero = refl
columns_plain ts xs (suc n) = one_more (columns_up_to ts xs n) _ (columns_plain ts xs n) (column_plain (slice_index_or ts n cells.Int) (slice_index_or xs n None))

place_plain : (x : Place) → has_float (place_data x) ≡ false
place_plain x = both _ _ (maybe_plain x.number) refl

code_plain : (kinds : List Kind) (fire update selection : List Place) → has_float (code_of kinds fire update selection) ≡ false
code_plain kinds fire update selection =
    both _ _ (listed kind_data (λ k. refl) kinds)
    (both _ _ (listed place_data place_plain fire) (both _ _ (listed place_data place_plain update) (both _ _ (listed place_data place_plain selection) refl)))

declares_plain : (d : Declared) → has_float (declares_data d) ≡ false
declares_plain d = both _ _ (listed field_data field_plain d.fields) (both _ _ (listed text_data text_plain d.keys) (both _ _ (listed text_data text_plain d.sources) refl))

output_plain : (h : Header) (columns : Data) → has_float columns ≡ false → has_float (output_data h columns) ≡ false
output_plain h columns e = both _ _ e (both _ _ (firing_plain h.mode h.early h.late h.form) (both _ _ (window_plain h.shape) refl))

program_plain : (p : Program) (needs : Costs) (code columns : Data) → has_float code ≡ false → has_float columns ≡ false → has_float (program_data p needs code columns) ≡ false
program_plain p needs code columns c e = both _ _ (clock_plain p.header.clock) (both _ _ c (both _ _ (declares_plain p.header.schema) (both _ _ (output_plain p.header columns e) refl)))

span_plain : (text : List ℕ) (s : Span) → has_float (span_data text s) ≡ false
span_plain text s = both _ _ (text_plain (text_in text s)) refl

parts_plain : (i : Input) → has_float (text_parts i) ≡ false
parts_plain (input.Text text) = listed (span_data text.now) (span_plain text.now) (spans_of text.now)
parts_plain (input.Program bytes) = refl

limit_plain : (fault : CheckFault) → has_float (limit_data fault) ≡ false
limit_plain (Exceeds limit counted allowed) = refl
limit_plain fault = refl

standing_plain : (front : List ℕ) (p : Position) → has_float (standing_data front p) ≡ false
standing_plain front p = listed string (λ w. refl) (filter (may_stand front p) candidates)

words_plain : has_float reserved_data ≡ false
words_plain = listed string (λ w. refl) reserved_words

refusal_plain : (text : List ℕ) (why : InputRefusal) → has_float (refusal_data text why) ≡ false
refusal_plain text (refusals.Text fault p) = both _ _ (standing_plain (take (place_of (tokens_from text p)) text) p) refl
refusal_plain text (refusals.Check fault part) = both _ _ (limit_plain fault) refl
refusal_plain text (refusals.Bytes fault) = refl
refusal_plain text (refusals.Keys fault) = refl

fault_plain : (i : Input) (j : Judgement) → has_float (fault_data i j) ≡ false
fault_plain i (Refused why) = refusal_plain (text_of i) why
fault_plain i (Rejected p why ways) = refl
fault_plain i (Accepted p ways) = refl

ways_plain : (ways : Option (List Way)) → has_float (joins_of ways) ≡ false
ways_plain None = refl
ways_plain (Some ways) = listed way_data (λ w. refl) ways

joins_plain : (j : Judgement) → has_float (joins_data j) ≡ false
joins_plain (Refused why) = refl
joins_plain (Rejected p why ways) = ways_plain (option_map (λ v. v.items) ways)
joins_plain (Accepted p ways) = ways_plain (option_map (λ v. v.items) ways)

judged_plain : (j : Judgement) → has_float (judged_data j) ≡ false
judged_plain (Refused why) = refl
judged_plain (Rejected p why ways) =
    program_plain p (needed p) (bare_code p) (columns_data p.header.columns []) (code_plain p.header.kinds (map bare p.fire) (map bare p.update) (map bare p.selection))
    (columns_plain p.header.columns [] (length p.header.columns))
judged_plain (Accepted p ways) =
    program_plain p (needed p) (code_data p) (columns_data p.header.columns (column_ranges p)) (code_plain p.header.kinds (places_in p Fire) (places_in p Update) (places_in p Where))
    (columns_plain p.header.columns (column_ranges p) (length p.header.columns))

ranges_plain : (p : Program) (n : ℕ) → items_have_float (items_of (ranges_up_to p n)) ≡ false
ranges_plain p zero = refl
ranges_plain p (suc n) = one_more (ranges_up_to p n) _ (ranges_plain p n) (maybe_plain (range p n))

accepted_plain : (j : Judgement) → has_float (accepted_ranges j) ≡ false
accepted_plain (Refused why) = refl
accepted_plain (Rejected p why ways) = refl
accepted_plain (Accepted p ways) = ranges_plain p (length p.header.kinds)

sum_plain : (i : Input) → has_float (text_sum_data i) ≡ false
sum_plain (input.Text text) = refl
sum_plain (input.Program bytes) = refl

pub explained_plain : (i : Input) (j : Judgement) → has_float (explained_data i j) ≡ false
explained_plain i j = both _ _ (fault_plain i j) (both _ _ (joins_plain j) (both _ _ (parts_plain i) (both _ _ (judged_plain j) (both _ _ (accepted_plain j) (both _ _ (sum_plain i) (both _ _ words_plain refl))))))
