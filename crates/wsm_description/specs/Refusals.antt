-- Refusals, and how a definition goes on where there was none.
use Rattle.std.specs.Prelude.{ℕ, ◌==◌, List, ◌++◌, length, codes, if◌then◌else◌, Result, Ok, Err}
use Rattle.wsm_description.specs.declared.refusal.SourceFault.{SourceFault}
use Rattle.wsm_description.specs.declared.refusal.Refusal.{Refusal}
use Rattle.wsm_description.specs.declared.refusal.Refusal.TheVariants.{Fault}

-- the dotted name of a key in a section; a key of the whole text has an empty section
abbrev pub dotted : List ℕ → List ℕ → List ℕ
dotted section key = if length section == 0 then key else (section ++ codes ".") ++ key

-- the refusal for a key of a section
abbrev pub refused : {A : Type 0} → SourceFault → List ℕ → List ℕ → Result A Refusal
refused fault section key = Err (Fault fault (dotted section key))

-- what reads on where there was no refusal
abbrev pub on_ok : {A B : Type 0} → Result A Refusal → (A → Result B Refusal) → Result B Refusal
on_ok (Ok a) f = f a
on_ok (Err why) f = Err why
