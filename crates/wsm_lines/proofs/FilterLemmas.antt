-- What passes a filter in which a name was marked.
use Rattle.std.proofs.Common.{◌≡◌, ◌∙◌, ℕ, List, [], ◌∷◌, Bool, true, false, refl, eq-eqb}
use Rattle.std.proofs.lemmas.Bool.{and_parts}
use Rattle.std.specs.Prelude.{◌==◌, ◌||◌, ◌&&◌, Option, Some, None}
use Rattle.wsm_lines.specs.Members.{Widens, bucket_of, passes, passes_fields, passes_first, passes_maybe, passes_place}
use Rattle.wsm_lines.specs.declared.source.Field.{Field}
use Rattle.wsm_lines.specs.declared.source.Place.{Place}
use Rattle.wsm_lines.specs.declared.source.Place.TheVariants as place

or_true : (b c : Bool) → c ≡ true → (b || c) ≡ true
or_true true c h = refl
or_true false c h = h

both : (b c : Bool) → b ≡ true → c ≡ true → (b && c) ≡ true
both true c first rest = rest
both false c first rest = first

true_or : (b c : Bool) → b ≡ true → (b || c) ≡ true
true_or true c h = refl
true_or false c h = cc

same_bucket : (n : ℕ) → (n == n) ≡ true
same_bucket n = eq-eqb n n refl

-- a marked name passes, and so does each that passed
pub marked_passes : (old new : List Bool) (name : List ℕ) → ((n : List ℕ) → passes new n ≡ (passes old n || bucket_of n == bucket_of name)) → passes new name ≡ true
marked_passes old new name is = is name ∙ or_true (passes old name) (bucket_of name == bucket_of name) (same_bucket (bucket_of name))

pub marked_widens : (old new : List Bool) (name : List ℕ) → ((n : List ℕ) → passes new n ≡ (passes old n || bucket_of n == bucket_of name)) → Widens old new
marked_widens old new name is n h = is n ∙ true_or (passes old n) (bucket_of n == bucket_of name) h

module _ (old new : List Bool) (wider : Widens old new) where
  wider_first : (names : List (List ℕ)) → passes_first old names ≡ true → passes_first new names ≡ true
  wider_first [] h = refl
  wider_first (name ∷ names) h = wider name h

  pub wider_place : (p : Place) → passes_place old p ≡ true → passes_place new p ≡ true
  wider_place (place.Path names) h = wider_first names h
  wider_place (place.Column k) h = refl

  pub wider_maybe : (p : Option Place) → passes_maybe old p ≡ true → passes_maybe new p ≡ true
  wider_maybe None h = refl
  wider_maybe (Some p) h = wider_place p h

  pub wider_fields : (fs : List Field) → passes_fields old fs ≡ true → passes_fields new fs ≡ true
  wider_fields [] h = refl
  wider_fields (f ∷ fs) h =
      let parts = and_parts (passes_place old f.at) (passes_fields old fs) h in
      both (passes_place new f.at) (passes_fields new fs) (wider_place f.at parts.0) (wider_fields fs parts.1)

pub both_pass : (bs : List Bool) (f : Field) (fs : List Field) → passes_place bs f.at ≡ true → passes_fields bs fs ≡ true → passes_fields bs (f ∷ fs) ≡ true
both_pass bs f fs first rest = both (passes_place bs f.at) (passes_fields bs fs) first rest
