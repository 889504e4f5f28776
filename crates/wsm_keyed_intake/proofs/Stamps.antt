-- Stamps and clocks by more names.
use Rattle.std.proofs.Common.{◌≡◌, ◌∙◌, ◌++◌, ◌&&◌, ◌+◌, ℕ, Bool, true, List, length, Option, Some, None, refl, sym, ap, subst, arith}
use Rattle.std.specs.Prelude.{nat_lt, unwrap_or, if◌then◌else◌, unsigned_abs}
use Rattle.std.proofs.lemmas.Bool.{lt-ltb, ltb-true}
use Rattle.std.proofs.lemmas.List.{length-append}
use Rattle.wsm_record.specs.Event.{Event, Record, Watermark}
use Rattle.wsm_record.specs.Schema.{Declared, fit_fields}
use Rattle.wsm_windows.specs.Limits.{is_time}
use Rattle.wsm_watermarks.specs.declared.held.Timed.{Timed}
use Rattle.wsm_watermarks.specs.declared.stamp.Stamp.{Stamp}
use Rattle.wsm_turns.specs.declared.clocks.Clocks.{Clocks}
use Rattle.wsm_turns.specs.declared.waiting.Waiting.{Waiting}
use Rattle.wsm_turns.specs.Clocks.{count_in}
use Rattle.wsm_turns.specs.Numbered.{Numbered}
use Rattle.wsm_turns.specs.Turns.{stamp_of}
use Rattle.wsm_turns.specs.Waits.{Hear}
use Rattle.wsm_key_names.specs.Reading.{by_names, is_named}
use Rattle.wsm_keyed_intake.specs.Turns.{AreNamed, Grows}

less_in_more : (n : ℕ) (names more : List (List ℕ)) → nat_lt n (length names) ≡ true → nat_lt n (length (names ++ more)) ≡ true
less_in_more n names more h =
    let few = ltb-true n (length names) h in
    let all = length-append names more in
    lt-ltb n (length (names ++ more)) (omega (arith, few, all))

-- an event whose key has a name has the same stamp where more names are
pub stamp_more : (d : Declared) (names all : List (List ℕ)) → Grows names all → (e : Event) → is_named names e ≡ true → stamp_of (by_names names d) e ≡ stamp_of (by_names all d) e
stamp_more d names all grows (Record None t vs) h = refl
stamp_more d names all grows (Record (Some n) t vs) h =
    let there : nat_lt n (length all) ≡ true = subst (λ (ns : List (List ℕ)). nat_lt n (length ns) ≡ true) (sym grows.1) (less_in_more n names grows.0 h) in
    ap (λ (b : Bool). if b && (fit_fields d.fields vs && is_time t) then Some (let s : Stamp = record { clock = n; time = unsigned_abs t } in s) else None) (h ∙ sym there)
stamp_more d names all grows (Watermark s t) h = refl

-- clocks that aren't those of keys are as many, whichever names there are
pub count_same : (clocks : Option Clocks) (a b : ℕ) (w : Option Waiting) (stamps : List Stamp) (told : ℕ) (waits : List (Timed Numbered)) → AreNamed clocks
    → Hear clocks (count_in clocks a) w stamps told waits → Hear clocks (count_in clocks b) w stamps told waits
count_same None a b None stamps told waits named hears = hears
count_same None a b (Some w) stamps told waits named hears = hears
count_same (Some c) a b w stamps told waits named hears =
    subst (λ (n : ℕ). Hear (Some c) n w stamps told waits) (ap (λ (o : Option ℕ). unwrap_or o a) named.1 ∙ sym (ap (λ (o : Option ℕ). unwrap_or o b) named.1)) hears
