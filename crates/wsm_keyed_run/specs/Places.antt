-- The text that is compiled: that of a query without a KEYS clause, behind one of places.
use Rattle.std.specs.Prelude.{◌≡◌, ◌≢◌, ◌⊎◌, IsTrue, refl, ℕ, zero, suc, ◌==◌, Bool, true, false, ◌||◌, List, [], ◌++◌, Ok, Err, codes, is_ok, if◌then◌else◌}
use Rattle.std.specs.Fmt.{decimal, digits}
use Rattle.wsm_record.specs.declared.words.Form.TheVariants.{Panes}
use Rattle.wsm_tokens.specs.Tokens.{Tokens, Then, tokens}
use Rattle.wsm_tokens.specs.Read.{begins}
use Rattle.wsm_program.specs.Program.{Program, is_program}
use Rattle.wsm_part_programs.specs.Keyless.{IsKeyless}
use Rattle.wsm_part_engines.specs.State.{State}
use Rattle.wsm_part_engines.specs.Fits.{Fits}
use Rattle.wsm_rules.specs.Rules.{judge}
use Rattle.wsm_inputs.specs.declared.end.End.{End}
use Rattle.wsm_inputs.specs.declared.end.End.TheVariants as ends
use Rattle.wsm_inputs.specs.Judged.{compiled, text_judged}
use Rattle.wsm_ends.specs.declared.keyed.KeyedStop.{KeyedStop}
use Rattle.wsm_ends.specs.declared.keyed.KeyedStop.TheVariants as stops

-- ---- places

-- the name of a place, and what stands in front of it
abbrev pub place_text : ℕ → List ℕ
place_text place = (if place == 0 then codes "KEYS p" else codes ", p") ++ decimal place

-- so many places
abbrev pub places_text : ℕ → List ℕ
places_text zero = []
places_text (suc place) = places_text place ++ place_text place

-- the text behind a clause of so many places
abbrev pub text_over : ℕ → List ℕ → List ℕ
text_over places text = places_text places ++ (codes ";\n" ++ text)

three_places : text_over 3 (codes "FIELD") ≡ codes "KEYS p0, p1, p2;\nFIELD"
unfolding digits
three_places = refl

-- ---- words

-- whether the word stands among tokens
abbrev pub says : List ℕ → Tokens → Bool
says word (Then t at rest) = begins word (Then t at rest) || says word rest
says word ts = false

-- ---- what is judged

-- the program of a text over places, which is accepted
pub record IsByPlaces (text : List ℕ) (p : Program) : Type 0 where
  pub places : ℕ
  pub judged : compiled (text_judged (text_over places text)) ≡ Ok p
  pub accepted : is_ok (judge p) ≡ true

-- a text that isn't accepted over some number of places, or want of memory
abbrev pub IsUnaccepted : List ℕ → End → Type 0
IsUnaccepted text (ends.Refused why) = (places : ℕ) × compiled (text_judged (text_over places text)) ≡ Err why
IsUnaccepted text (ends.Rejected why) = (places : ℕ) × (p : Program) × (compiled (text_judged (text_over places text)) ≡ Ok p) × (judge p ≡ Err why)
IsUnaccepted text ends.Memory = Unit {0}
IsUnaccepted text end = ⊥

-- a text that isn't run: nothing was written
abbrev pub IsUnrun : List ℕ → KeyedStop → Type 0
IsUnrun text stops.KeysClause = begins (codes "KEYS") (tokens text) ≡ true
IsUnrun text stops.ReadsKey = (says (codes "KEY") (tokens text) ≡ true) ⊎ ((p : Program) × IsByPlaces text p × (IsKeyless p → ⊥))
IsUnrun text stops.Streams = (p : Program) × IsByPlaces text p × (p.header.form ≢ Panes)
IsUnrun text (stops.End end) = IsUnaccepted text end

-- the engines of a text's program before the first event
pub record IsOpened (text : List ℕ) (parts : State) : Type 0 where
  pub by : IsByPlaces text parts.program
  pub lawful : IsTrue (is_program parts.program)
  pub panes : parts.program.header.form ≡ Panes
  pub fits : (names : List (List ℕ)) → Fits parts.program names parts []
