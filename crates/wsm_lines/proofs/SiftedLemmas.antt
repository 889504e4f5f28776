-- A line says the same by the members that pass.
use Rattle.std.proofs.Common.{◌≡◌, ◌∙◌, ℕ, List, [], ◌∷◌, ◌++◌, Bool, true, false, cond, Option, Some, None, refl, sym, ap}
use Rattle.std.proofs.lemmas.Bool.{and_parts, false≢true}
use Rattle.std.specs.Cmp.Lexicographic.{same_text}
use Rattle.std.specs.Prelude.{Result, Ok, option_map, option_and_then}
use Rattle.std.specs.Str.{bytes_eq}
use Rattle.json.specs.Find.{get, get_member, later_or}
use Rattle.json.specs.Json.{Json, null, boolean, number, string, array, object, Members, no_members, member, document}
use Rattle.wsm_record.specs.declared.event.Value.{Value}
use Rattle.wsm_record.specs.Event.{Record}
use Rattle.wsm_record.specs.Schema.{Declared}
use Rattle.wsm_lines.specs.ClockName.{clock_at, clock_in}
use Rattle.wsm_lines.specs.Event.{event_in, field_in, key_named, text_of, time_in, values_from}
use Rattle.wsm_lines.specs.Fault.{on_ok, or_fault}
use Rattle.wsm_lines.specs.Identifier.{identifier_at, identifier_in}
use Rattle.wsm_lines.specs.Key.{key_at, key_by, key_in}
use Rattle.wsm_lines.specs.Members.{PassesSource, passes, passes_fields, passes_first, passes_maybe, passes_place, passing, sifted}
use Rattle.wsm_lines.specs.Said.{clock_by, event_by, identifier_by, taken_json}
use Rattle.wsm_lines.specs.Scalar.{json, found_at, of_found, of_json, scalar_at}
use Rattle.wsm_lines.specs.declared.fault.LineFault.{LineFault}
use Rattle.wsm_lines.specs.declared.fault.LineFault.TheVariants.{NoKey, BadKey, NoTime, BadTime, NotJson}
use Rattle.wsm_lines.specs.declared.source.Field.{Field}
use Rattle.wsm_lines.specs.declared.source.Place.{Place}
use Rattle.wsm_lines.specs.declared.source.Place.TheVariants as place
use Rattle.wsm_lines.specs.declared.source.Source.{Source}

none_is : (v : Json) → None ≡ Some v → ⊥
none_is v e = cc

module _ (b : List Bool) where
  -- the name of a member that doesn't pass is no name that does
  differs : (k name : List ℕ) (same : Bool) → bytes_eq k name ≡ same → passes b k ≡ false → passes b name ≡ true → same ≡ false
  differs k name false is out inside = refl
  differs k name true is out inside = absurd (false≢true (sym out ∙ ap (passes b) (same_text k name (sym is)) ∙ inside))

  no_later : (o : Option Json) (j : Json) (same : Bool) → same ≡ false → o ≡ later_or o (cond same (Some j) None)
  no_later None j same is = sym (ap (λ c. cond c (Some j) None) is)
  no_later (Some x) j same is = refl

  get_member_by : (name k : List ℕ) (j : Json) (ms : Members) (c : Bool) → passes b k ≡ c → passes b name ≡ true → get_member name (passing b ms) ≡ get_member name ms
      → get_member name (cond c (member k j (passing b ms)) (passing b ms)) ≡ get_member name (member k j ms)
  get_member_by name k j ms true is h same = ap (λ o. later_or o (cond (bytes_eq k name) (Some j) None)) same
  get_member_by name k j ms false is h same = same ∙ no_later (get_member name ms) j (bytes_eq k name) (differs k name (bytes_eq k name) refl is h)

  get_passing : (name : List ℕ) (ms : Members) → passes b name ≡ true → get_member name (passing b ms) ≡ get_member name ms
  get_passing name no_members h = refl
  get_passing name (member k j ms) h = get_member_by name k j ms (passes b k) refl h (get_passing name ms h)

  get_sifted : (name : List ℕ) (j : Json) → passes b name ≡ true → get name (sifted b j) ≡ get name j
  get_sifted name null h = refl
  get_sifted name (boolean t) h = refl
  get_sifted name (number s) h = refl
  get_sifted name (string s) h = refl
  get_sifted name (array js) h = refl
  get_sifted name (object ms) h = get_passing name ms h

  of_json_sifted : (j : Json) → of_json (sifted b j) ≡ of_json j
  of_json_sifted null = refl
  of_json_sifted (boolean true) = refl
  of_json_sifted (boolean false) = refl
  of_json_sifted (number s) = refl
  of_json_sifted (string s) = refl
  of_json_sifted (array js) = refl
  of_json_sifted (object ms) = refl

  names_sifted : (names : List (List ℕ)) (j : Json) → passes_first b names ≡ true → of_found (found_at names (sifted b j)) ≡ of_found (found_at names j)
  names_sifted [] j h = of_json_sifted j
  names_sifted (name ∷ names) j h = ap (λ o. of_found (option_and_then (found_at names) o)) (get_sifted name j h)

  scalar_sifted : (p : Place) (j : Json) → passes_place b p ≡ true → scalar_at (json (sifted b j)) p ≡ scalar_at (json j) p
  scalar_sifted (place.Path names) j h = names_sifted names j h
  scalar_sifted (place.Column k) j h = refl

  values_sifted : (vs : List Value) (fs : List Field) (j : Json) → passes_fields b fs ≡ true → values_from vs fs (json (sifted b j)) ≡ values_from vs fs (json j)
  values_sifted vs [] j h = refl
  values_sifted vs (f ∷ fs) j h =
      let parts = and_parts (passes_place b f.at) (passes_fields b fs) h in
      (λ i. on_ok (field_in f (scalar_sifted f.at j parts.0 i)) (λ v. values_sifted (vs ++ v ∷ []) fs j parts.1 i))

  identifier_sifted : (p : Option Place) (j : Json) → passes_maybe b p ≡ true → identifier_at p (json (sifted b j)) ≡ identifier_at p (json j)
  identifier_sifted None j h = refl
  identifier_sifted (Some p) j h = ap identifier_in (scalar_sifted p j h)

  clock_sifted : (p : Option Place) (j : Json) → passes_maybe b p ≡ true → clock_at p (json (sifted b j)) ≡ clock_at p (json j)
  clock_sifted None j h = refl
  clock_sifted (Some p) j h = ap clock_in (scalar_sifted p j h)

  module _ (s : Source) (h : PassesSource b s) where
    event_sifted : (d : Declared) (j : Json) → event_in s d (json (sifted b j)) ≡ event_in s d (json j)
    event_sifted d j =
        (λ i. on_ok (on_ok (on_ok (text_of NoKey BadKey (scalar_sifted s.key.at j h.key i)) (key_named s.key.names d))
        (λ key. on_ok (on_ok (text_of NoTime BadTime (scalar_sifted s.time.at j h.time i)) (λ t. or_fault BadTime (time_in s.time t)))
        (λ time. on_ok (values_sifted [] s.fields j h.fields i) (λ vs. Ok (Record key time vs)))))
        (λ event. on_ok (identifier_sifted s.identifier j h.identifier i) (λ identifier. Ok event)))

    pub event_by-sifted : (d : Declared) (text : Result (List ℕ) LineFault) (t : List ℕ) (v : Json) → text ≡ Ok t → option_map (sifted b) (document t) ≡ Some v
        → event_by s d (on_ok text taken_json) ≡ event_in s d (json v)
    event_by-sifted d text t v is seen = ap (λ x. event_by s d (on_ok x taken_json)) is ∙ by (document t) seen
      where
        by : (o : Option Json) → option_map (sifted b) o ≡ Some v → event_by s d (or_fault NotJson (option_map json o)) ≡ event_in s d (json v)
        by None e = absurd (none_is v e)
        by (Some j) e = sym (event_sifted d j) ∙ ap (λ o. event_by s d (or_fault NotJson (option_map json o))) e

    pub identifier_by-sifted : (text : Result (List ℕ) LineFault) (t : List ℕ) (v : Json) → text ≡ Ok t → option_map (sifted b) (document t) ≡ Some v
        → identifier_by s (on_ok text taken_json) ≡ identifier_at s.identifier (json v)
    identifier_by-sifted text t v is seen = ap (λ x. identifier_by s (on_ok x taken_json)) is ∙ by (document t) seen
      where
        by : (o : Option Json) → option_map (sifted b) o ≡ Some v → identifier_by s (or_fault NotJson (option_map json o)) ≡ identifier_at s.identifier (json v)
        by None e = absurd (none_is v e)
        by (Some j) e = sym (identifier_sifted s.identifier j h.identifier) ∙ ap (λ o. identifier_by s (or_fault NotJson (option_map json o))) e

    pub clock_by-sifted : (text : Result (List ℕ) LineFault) (t : List ℕ) (v : Json) → text ≡ Ok t → option_map (sifted b) (document t) ≡ Some v
        → clock_by s (on_ok text taken_json) ≡ Ok (clock_at s.clock (json v))
    clock_by-sifted text t v is seen = ap (λ x. clock_by s (on_ok x taken_json)) is ∙ by (document t) seen
      where
        by : (o : Option Json) → option_map (sifted b) o ≡ Some v → clock_by s (or_fault NotJson (option_map json o)) ≡ Ok (clock_at s.clock (json v))
        by None e = absurd (none_is v e)
        by (Some j) e = ap Ok (sym (clock_sifted s.clock j h.clock)) ∙ ap (λ o. clock_by s (or_fault NotJson (option_map json o))) e

    pub key_by-sifted : (text : Result (List ℕ) LineFault) (t : List ℕ) (v : Json) → text ≡ Ok t → option_map (sifted b) (document t) ≡ Some v
        → key_by s (on_ok text taken_json) ≡ key_at s.key (json v)
    key_by-sifted text t v is seen = ap (λ x. key_by s (on_ok x taken_json)) is ∙ by (document t) seen
      where
        by : (o : Option Json) → option_map (sifted b) o ≡ Some v → key_by s (or_fault NotJson (option_map json o)) ≡ key_at s.key (json v)
        by None e = absurd (none_is v e)
        by (Some j) e = sym (ap (λ x. on_ok (text_of NoKey BadKey x) key_in) (scalar_sifted s.key.at j h.key)) ∙ ap (λ o. key_by s (or_fault NotJson (option_map json o))) e
