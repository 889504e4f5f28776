-- What is told of an event tells what it does.
use Rattle.std.proofs.Common.{◌≡◌, ℕ, Bool, true, false, ◌&&◌, cond, List, ◌∷◌, length, ℤ, Option, Some, None, Ok, IsTrue, not, refl, ◌∙◌}
use Rattle.std.specs.Prelude.{is_none, is_some}
use Rattle.wsm_record.specs.declared.event.Value.{Value}
use Rattle.wsm_record.specs.Event.{Event, Record, Watermark}
use Rattle.wsm_semantics.specs.Query.{Datum, Query, Selects, Rises, Nothing, datum, effect_of, mark, raises, is_taken}
use Rattle.wsm_program.specs.Program.{Program, is_program}
use Rattle.wsm_rules.proofs.Lawful.{lawful as program_lawful}
use Rattle.wsm_machine.proofs.CountedSessions.{sessions_by_event}
use Rattle.wsm_machine.specs.Meaning.{query_of}
use Rattle.wsm_engine.specs.Meaning.{selects_record}
use Rattle.wsm_keep.specs.declared.what.What.{What}
use Rattle.wsm_keep.specs.declared.what.What.TheVariants.{Selected, Idle}
use Rattle.wsm_keep.specs.Staying.{what_of}
use Rattle.wsm_keep.specs.Keeper.{IsLawfulQuery}
use Rattle.wsm_cut.specs.Judge.{what_told, what_accepted}

nothing_told : (b : Bool) → cond b Idle Idle ≡ Idle
nothing_told true = refl
nothing_told false = refl

record_told : (key : ℕ) (t : ℤ) (vs : List Value) (taken chosen : Bool) (d : Datum) → what_told (selects_record (cond (taken && chosen) (Selects d) Nothing)) taken (Record (Some key) t vs) ≡ cond (taken && chosen) (Selected key t) Idle
record_told key t vs true true d = refl
record_told key t vs true false d = refl
record_told key t vs false true d = refl
record_told key t vs false false d = refl

watermark_told : (raised taken : Bool) (old new : ℤ) (e : Event) → what_told (selects_record (cond raised (Rises old new) Nothing)) taken e ≡ cond taken (what_accepted e) Idle
watermark_told true taken old new e = refl
watermark_told false taken old new e = refl

-- it is what the event does
pub what_there : (q : Query) (past : List Event) (e : Event) → what_told (selects_record (effect_of q past e)) (is_taken q past e) e ≡ what_of q past (Ok e)
what_there q past (Record None t vs) = nothing_told (is_taken q past (Record None t vs))
what_there q past (Record (Some k) t vs) = record_told k t vs (is_taken q past (Record (Some k) t vs)) (q.selects k vs) (datum (length past) (mark q past) k t vs)
what_there q past (Watermark None t) =
    watermark_told (raises q past (Watermark None t)) (is_taken q past (Watermark None t)) (mark q past) (mark q (Watermark None t ∷ past)) (Watermark None t)
    ∙ nothing_told (is_taken q past (Watermark None t))
what_there q past (Watermark (Some s) t) =
    watermark_told (raises q past (Watermark (Some s) t)) (is_taken q past (Watermark (Some s) t)) (mark q past) (mark q (Watermark (Some s) t ∷ past)) (Watermark (Some s) t)

pub query_lawful : (p : Program) → IsTrue (is_program p) → IsLawfulQuery (query_of p)
query_lawful p whole = record { shape = (program_lawful p whole).shape; timely = sessions_by_event p whole }

-- what there is none of
pub none_is : {A : Type 0} (o : Option A) (b : Bool) → is_some o ≡ not b → b ≡ is_none o
none_is None true h = refl
none_is None false h = absurd cc
none_is (Some x) true h = absurd cc
none_is (Some x) false h = refl
