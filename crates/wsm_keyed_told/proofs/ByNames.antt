-- What stays of events, by any names.
use Rattle.std.proofs.Common.{◌≡◌, ◌∷◌, ℕ, List, [], Result, Ok, Err, IsTrue, refl}
use Rattle.std.specs.Prelude.{IfOk, OnOk}
use Rattle.wsm_record.specs.Event.{Event}
use Rattle.wsm_program.specs.Program.{Program, is_program}
use Rattle.wsm_rules.proofs.Lawful.{lawful}
use Rattle.wsm_machine.proofs.CountedSessions.{sessions_by_event}
use Rattle.wsm_part_programs.specs.Names.{of_names}
use Rattle.wsm_part_engines.specs.State.{State}
use Rattle.wsm_part_engines.specs.Fits as parts
use Rattle.wsm_keep.specs.Keeper.{IsLawfulQuery}

-- what holds for each holds for all
pub on_ok_all : {A B E : Type 0} (r : Result A E) (P : B → Type 0) → ((b : B) → OnOk r (P b)) → OnOk r ((b : B) → P b)
on_ok_all (Ok a) P h = h
on_ok_all (Err e) P h = tt

pub if_ok_all : {A B E : Type 0} (r : Result A E) (P : A → B → Type 0) → ((b : B) → IfOk r (λ a. P a b)) → IfOk r (λ a. (b : B) → P a b)
if_ok_all (Ok a) P h = h
if_ok_all (Err e) P h = tt

-- the query over any names is one that can be cut
pub names_lawful : (p : Program) → IsTrue (is_program p) → (all : List (List ℕ)) → IsLawfulQuery (of_names p all)
names_lawful p whole all = record { shape = (lawful p whole).shape; timely = sessions_by_event p whole }

-- names that all of a history have
abbrev pub Naming : List Event → Type 0
Naming past = (all : List (List ℕ)) × parts.AreNamed all past

-- what fits a history fits it by any names that all of it have
pub fits_any : (p : Program) (names : List (List ℕ)) (s : State) (past : List Event) → parts.Fits p names s past → (all : List (List ℕ)) → parts.AreNamed all past → parts.Fits p all s past
fits_any p names s past fits all named = record { program = fits.program; named = named; kept = fits.kept }
