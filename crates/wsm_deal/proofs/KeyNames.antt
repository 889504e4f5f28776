-- One line more of the keys of a text.
use Rattle.std.proofs.Common.{◌≡◌, ◌∙◌, ◌+◌, ◌++◌, ◌∷◌, [], Bool, ℕ, List, true, false, if◌then◌else◌, ap, bytes_eq, length, map, not, refl, sym}
use Rattle.std.specs.Prelude.{Err, Ok}
use Rattle.std.specs.List.{list_any}
use Rattle.std.proofs.lemmas.List.{length-map}
use Rattle.wsm_record.specs.Name.{is_among, is_name}
use Rattle.wsm_record.proofs.AddedNames.{among, grows}
use Rattle.wsm_record.proofs.Lists.{not-false, not-true}
use Rattle.wsm_deal.specs.Keys.{keys_behind, lines_of}
use Rattle.wsm_deal.specs.declared.shares.SharesRefusal.TheVariants.{BadName, DuplicateName}

module _ {V : Type 0} (items : V → List ℕ) (keys : List V) (line : List ℕ) (number : ℕ) where
  -- the line is no name
  pub without_name : number ≡ length keys + 1 → is_name line ≡ false → (lines : List (List ℕ)) → keys_behind (map items keys) (line ∷ lines) ≡ Err (BadName number)
  unfolding keys_behind
  without_name count none lines = rw (none, length-map keys items, count) refl

  -- its name stands before
  pub name_again : (v : V) (is_new : Bool) → items v ≡ line → number ≡ length keys + 1 → is_name line ≡ true → is_new ≡ not (list_any (λ y. bytes_eq (items v) (items y)) keys) → is_new ≡ false
      → (lines : List (List ℕ)) → keys_behind (map items keys) (line ∷ lines) ≡ Err (DuplicateName number)
  unfolding keys_behind
  name_again v is_new is count name added old lines =
      let here : is_among line (map items keys) ≡ true = among items keys v line is ∙ not-false _ _ added old in
      rw (name, here, length-map keys items, count) refl

  -- it is a new one
  pub new_name : (v : V) (is_new : Bool) (new : List V) → items v ≡ line → is_name line ≡ true → is_new ≡ not (list_any (λ y. bytes_eq (items v) (items y)) keys) → is_new ≡ true
      → new ≡ (if list_any (λ y. bytes_eq (items v) (items y)) keys then keys else keys ++ v ∷ []) → (lines : List (List ℕ)) → keys_behind (map items keys) (line ∷ lines) ≡ keys_behind (map items new) lines
  unfolding keys_behind
  new_name v is_new new is name added first grown lines =
      let absent = not-true _ _ added first in
      let here : is_among line (map items keys) ≡ false = among items keys v line is ∙ absent in
      rw (name, here) (ap (λ (ks : List (List ℕ)). keys_behind ks lines) (sym (grows items keys new v line _ is absent grown)))

-- no line is left
pub no_line_left : (before : List (List ℕ)) (text : List ℕ) → length text ≡ 0 → keys_behind before (lines_of text) ≡ Ok before
unfolding keys_behind lines_of
no_line_left before [] none = refl
no_line_left before (b ∷ bs) none = cc none
