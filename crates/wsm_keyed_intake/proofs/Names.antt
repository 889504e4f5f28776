-- Names that lines teach stand behind those that were there.
use Rattle.std.proofs.Common.{◌∙◌, ◌++◌, ◌∷◌, ◌&&◌, ℕ, true, false, cond, List, [], length, bytes_eq, Option, Some, None, refl, sym, ap, append_assoc, append-nil}
use Rattle.std.specs.Prelude.{is_ok, nat_lt}
use Rattle.std.specs.List.{list_any}
use Rattle.wsm_lines.specs.declared.source.Source.{Source}
use Rattle.wsm_lines.specs.Key.{key_text_of, no_names}
use Rattle.wsm_lines.specs.Said.{said_of}
use Rattle.wsm_key_parts.specs.Names.{with_name}
use Rattle.wsm_key_names.specs.Names.{is_key_name, learned}
use Rattle.wsm_key_names.specs.Reading.{learned_of}
use Rattle.wsm_named_lines.specs.Names.{names_after_line}
use Rattle.wsm_keyed_intake.specs.KeyedLog.{KeyedLog, names_of}
use Rattle.wsm_keyed_intake.specs.Turns.{Grows}

grows_none : (names : List (List ℕ)) → Grows names names
grows_none names = ([], sym (append-nil names))

name_grows : (names : List (List ℕ)) (text : List ℕ) → Grows names (with_name names text)
name_grows names text = elim (list_any (bytes_eq text) names) as (λ b. Grows names (cond b names (names ++ text ∷ []))) [
  | true ↦ grows_none names
  | false ↦ (text ∷ [], refl)
]

learned_grows : (most : ℕ) (names : List (List ℕ)) (text : List ℕ) → Grows names (learned most names text)
learned_grows most names text = elim (is_key_name text && nat_lt (length names) most) as (λ b. Grows names (cond b (with_name names text) names)) [
  | true ↦ name_grows names text
  | false ↦ grows_none names
]

text_grows : (most : ℕ) (names : List (List ℕ)) (text : Option (List ℕ)) → Grows names (learned_of most names text)
text_grows most names None = grows_none names
text_grows most names (Some text) = learned_grows most names text

pub line_grows : (most : ℕ) (s : Source) (names before : List (List ℕ)) (line : List ℕ) → Grows names (names_after_line most s names before line)
line_grows most s names before line =
    elim (is_ok (said_of s no_names before line)) as (λ b. Grows names (cond b (learned_of most names (key_text_of s before line)) names)) [
      | true ↦ text_grows most names (key_text_of s before line)
      | false ↦ grows_none names
    ]

pub lines_grow : (g : KeyedLog) (later before : List (List ℕ)) → Grows (names_of g before) (names_of g (later ++ before))
lines_grow g [] before = grows_none (names_of g before)
lines_grow g (line ∷ later) before =
    let rest = lines_grow g later before in
    let last = line_grows g.most g.source (names_of g (later ++ before)) (later ++ before) line in
    (rest.0 ++ last.0, last.1 ∙ ap (λ (ns : List (List ℕ)). ns ++ last.0) rest.1 ∙ append_assoc (names_of g before) rest.0 last.0)
