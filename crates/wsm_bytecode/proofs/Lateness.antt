-- What lateness is counted from, beside the tag of a shape.
use Rattle.std.proofs.Common.{◌≡◌, ◌≤◌, Bool, true, false, refl, sym, arith}
use Rattle.std.proofs.lemmas.Bool.{true≢false}
use Rattle.wsm_windows.specs.declared.Shape.{Shape}
use Rattle.wsm_windows.specs.declared.Shape.TheVariants.{Fixed, Sliding, Session}
use Rattle.wsm_program.specs.Program.{is_timely}
use Rattle.wsm_bytecode.specs.Tags.{shape_tag, last_shape_tag}

pub shape_tag_most : (s : Shape) → shape_tag s ≤ 2
shape_tag_most (Fixed n) = omega arith
shape_tag_most s = omega arith

-- a shape from whose windows' ends lateness is counted is none of sessions
pub tag_within : (s : Shape) (b : Bool) → is_timely b s ≡ true → shape_tag s ≤ last_shape_tag b
tag_within s false h = shape_tag_most s
tag_within (Fixed n) true h = omega arith
tag_within (Sliding n d) true h = omega arith
tag_within (Session n) true h = absurd (true≢false (sym h))

pub timely_within : (b : Bool) (s : Shape) → shape_tag s ≤ last_shape_tag b → is_timely b s ≡ true
timely_within b (Fixed n) h = refl
timely_within b (Sliding n d) h = refl
timely_within false (Session n) h = refl
timely_within true (Session n) h = absurd (omega arith)
