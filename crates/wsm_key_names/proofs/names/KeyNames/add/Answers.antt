use Rattle.std.proofs.Common.{◌≡◌, ◌∙◌, ◌++◌, ◌+◌, List, [], ◌∷◌, ℕ, map, length, not, true, false, ap, sym, subst, arith, length-append}
use Rattle.std.specs.Prelude.{Some, slice_get}
use Rattle.std.proofs.lemmas.List.{length-map, map-append}
use Rattle.wsm_record.specs.Name.{is_among, repeats_after}
use Rattle.wsm_record.proofs.Lists.{not-false, not-true}
use Rattle.wsm_record.proofs.AddedNames.{among, grows}
use Rattle.wsm_record.proofs.NameGuesses.{last_number}
use Rattle.wsm_key_names.specs.Cell.{kept_of}
use Rattle.wsm_key_names.specs.Guesses.{AreGuesses}
use Rattle.wsm_key_names.proofs.KeyGuesses.{guesses_more}
use Rattle.wsm_key_names.proofs.NameLists.{repeats_more}
use Rattle.wsm_key_names.proofs.names.KeyNames.add.Goals as goal

pub returns-then-not-branch-clause-new : goal.returns-then-not-branch-clause-new
returns-then-not-branch-clause-new c =
    let x = c.args.name.now in
    let is : c.in_ok-text.text.items ≡ x = c.in_ok-text.ensures.items_if_clones_equal (λ _ _ e. e) in
    let found = not-false _ _ c.in_ok-insert.ensures.added c.if-not-branch.true in
    let here : is_among x c.args.self.now ≡ true = ap (is_among x) (sym c.self.view_is) ∙ among (λ v. v.items) c.self.inside.names.keys c.in_ok-text.text x is ∙ found in
    sym (ap not here)

pub returns-clause-new : goal.returns-clause-new
returns-clause-new c =
    let x = c.args.name.now in
    let is : c.in_ok-text.text.items ≡ x = c.in_ok-text.ensures.items_if_clones_equal (λ _ _ e. e) in
    let absent = not-true _ _ c.in_ok-insert.ensures.added c.if-not-branch.false in
    let here : is_among x c.args.self.now ≡ false = ap (is_among x) (sym c.self.view_is) ∙ among (λ v. v.items) c.self.inside.names.keys c.in_ok-text.text x is ∙ absent in
    sym (ap not here)

pub invariant_of-self-2 : goal.invariant_of-self-2
invariant_of-self-2 c =
    let x = c.args.name.now in
    let keys = c.self.inside.names.keys in
    let names : List (List ℕ) = map (λ v. v.items) keys in
    let text = c.in_ok-text.text in
    let is : text.items ≡ x = c.in_ok-text.ensures.items_if_clones_equal (λ _ _ e. e) in
    let absent = not-true _ _ c.in_ok-insert.ensures.added c.if-not-branch.false in
    let new : is_among x names ≡ false = among (λ v. v.items) keys text x is ∙ absent in
    let grown = grows (λ v. v.items) keys c.insert.new.self.keys text x _ is absent c.in_ok-insert.ensures.keys in
    let kept = grows (λ v. kept_of v.items) keys c.insert.new.self.keys text (kept_of x) _ (ap kept_of is) absent c.in_ok-insert.ensures.keys in
    let count : length c.insert.new.self.keys ≡ length names + 1 = sym (length-map c.insert.new.self.keys (λ v. v.items)) ∙ ap (λ (l : List (List ℕ)). length l) grown ∙ length-append names (x ∷ []) in
    let seen = ap (λ (l : List (List ℕ)). length l) c.self.view_is in
    let number : c.len-number.result ≡ length names = c.len-number.ensures.len ∙ sym (length-map keys (λ v. v.items)) in
    let at : slice_get (names ++ x ∷ []) c.len-number.result ≡ Some x = ap (slice_get (names ++ x ∷ [])) number ∙ last_number names x in
    let shown : map (λ v. v.items) c.as_slice.result.now ≡ names = ap (map (λ v. v.items)) c.as_slice.ensures.keys in
    let room : AreGuesses names c.make_room.new.self.guesses.items =
    subst (λ (ns : List (List ℕ)). AreGuesses ns c.make_room.new.self.guesses.items) shown
    (c.in_ok-make_room.ensures (subst (λ (ns : List (List ℕ)). AreGuesses ns c.self.inside.guesses.guesses.items) (sym shown) c.self.invariant.1.1.0)) in
    let guesses : AreGuesses (names ++ x ∷ []) c.add.new.self.guesses.items = c.add.ensures (names ++ x ∷ []) at (guesses_more names x c.make_room.new.self.guesses.items room) in
    let distinct : repeats_after [] (names ++ x ∷ []) ≡ false = repeats_more [] names x c.self.invariant.1.0 new in
    let cells = c.push_reserved.ensures.items ∙ ap (λ (cs : List _). cs ++ c.in_ok-cell.cell ∷ []) c.in_ok-reserve.ensures.items in
    let cell : map (λ v. v.items) c.push_reserved.new.self.items ≡ map (λ v. kept_of v.items) keys ++ kept_of x ∷ [] =
    ap (map (λ v. v.items)) cells
    ∙ map-append (λ v. v.items) c.self.inside.quoted.items (c.in_ok-cell.cell ∷ [])
    ∙ ap (λ (ts : List (List ℕ)). ts ++ c.in_ok-cell.cell.items ∷ []) c.self.invariant.1.1.1
    ∙ ap (λ (t : List ℕ). map (λ v. kept_of v.items) keys ++ t ∷ []) c.in_ok-cell.ensures in (
      omega (arith, count, seen, c.requires),
      (
        ap (repeats_after []) grown ∙ distinct,
        (subst (λ (ns : List (List ℕ)). AreGuesses ns c.add.new.self.guesses.items) (sym grown) guesses, cell ∙ sym kept),
      ),
    )
