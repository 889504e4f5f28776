use Rattle.std.proofs.Common.{◌≡◌, ◌∙◌, ◌++◌, ◌+◌, List, [], ◌∷◌, ℕ, map, length, take, drop, not, true, false, ap, sym, subst, arith, length-append}
use Rattle.std.proofs.lemmas.List.{length-map, take_all}
use Rattle.std.proofs.Math.Seq.{take-append-le}
use Rattle.wsm_record.specs.declared.names.Guess.{Guess}
use Rattle.std.specs.Prelude.{Some, slice_get}
use Rattle.wsm_record.specs.Name.{is_among}
use Rattle.wsm_record.specs.Schema.{are_names_after}
use Rattle.wsm_record.specs.Guesses.{AreGuesses}
use Rattle.wsm_record.proofs.Lists.{not-false, not-true}
use Rattle.wsm_record.proofs.Schemas.{names_more}
use Rattle.wsm_record.proofs.NameGuesses.{guesses_more, last_number}
use Rattle.wsm_record.proofs.AddedNames.{among, grows}
use Rattle.wsm_record.proofs.names.Names.add.Goals as goal

pub returns-then-not-branch-clause-new : goal.returns-then-not-branch-clause-new
returns-then-not-branch-clause-new c =
    let x = c.args.name.now in
    let is : c.in_ok-to_vec.field-0.items ≡ x = c.in_ok-to_vec.ensures.items_if_clones_equal (λ _ _ e. e) ∙ c.as_bytes-text.ensures.bytes in
    let found = not-false _ _ c.in_ok-insert.ensures.added c.if-not-branch.true in
    let here : is_among x c.args.self.now ≡ true = ap (is_among x) (sym c.self.view_is) ∙ among (λ v. v.items) c.self.inside.texts.keys c.in_ok-to_vec.field-0 x is ∙ found in
    sym (ap not here)

pub returns-clause-new : goal.returns-clause-new
returns-clause-new c =
    let x = c.args.name.now in
    let is : c.in_ok-to_vec.field-0.items ≡ x = c.in_ok-to_vec.ensures.items_if_clones_equal (λ _ _ e. e) ∙ c.as_bytes-text.ensures.bytes in
    let absent = not-true _ _ c.in_ok-insert.ensures.added c.if-not-branch.false in
    let here : is_among x c.args.self.now ≡ false = ap (is_among x) (sym c.self.view_is) ∙ among (λ v. v.items) c.self.inside.texts.keys c.in_ok-to_vec.field-0 x is ∙ absent in
    sym (ap not here)

pub returns-clause-lawful : goal.returns-clause-lawful
returns-clause-lawful c =
    let x = c.args.name.now in
    let keys = c.self.inside.texts.keys in
    let names : List (List ℕ) = map (λ v. v.items) keys in
    let is : c.in_ok-to_vec.field-0.items ≡ x = c.in_ok-to_vec.ensures.items_if_clones_equal (λ _ _ e. e) ∙ c.as_bytes-text.ensures.bytes in
    let absent = not-true _ _ c.in_ok-insert.ensures.added c.if-not-branch.false in
    let new : is_among x names ≡ false = among (λ v. v.items) keys c.in_ok-to_vec.field-0 x is ∙ absent in
    let grown = grows (λ v. v.items) keys c.insert.new.self.keys c.in_ok-to_vec.field-0 x _ is absent c.in_ok-insert.ensures.keys in
    ap (are_names_after []) grown ∙ names_more [] names x c.self.invariant.1.0 c.as_bytes-text.ensures.name new

pub invariant_of-self-2 : goal.invariant_of-self-2
invariant_of-self-2 c =
    let x = c.args.name.now in
    let keys = c.self.inside.texts.keys in
    let names : List (List ℕ) = map (λ v. v.items) keys in
    let is : c.in_ok-to_vec.field-0.items ≡ x = c.in_ok-to_vec.ensures.items_if_clones_equal (λ _ _ e. e) ∙ c.as_bytes-text.ensures.bytes in
    let absent = not-true _ _ c.in_ok-insert.ensures.added c.if-not-branch.false in
    let new : is_among x names ≡ false = among (λ v. v.items) keys c.in_ok-to_vec.field-0 x is ∙ absent in
    let grown = grows (λ v. v.items) keys c.insert.new.self.keys c.in_ok-to_vec.field-0 x _ is absent c.in_ok-insert.ensures.keys in
    let lawful = ap (are_names_after []) grown ∙ names_more [] names x c.self.invariant.1.0 c.as_bytes-text.ensures.name new in
    let count : length c.insert.new.self.keys ≡ length names + 1 = sym (length-map c.insert.new.self.keys (λ v. v.items)) ∙ ap (λ (l : List (List ℕ)). length l) grown ∙ length-append names (x ∷ []) in
    let seen = ap (λ (l : List (List ℕ)). length l) c.self.view_is in
    let number : c.len-number.result ≡ length names = c.len-number.ensures.len ∙ sym seen in
    let at : slice_get (names ++ x ∷ []) c.len-number.result ≡ Some c.as_bytes-text.result.now =
    ap (slice_get (names ++ x ∷ [])) number ∙ last_number names x ∙ ap Some (sym c.as_bytes-text.ensures.bytes) in
    let before : AreGuesses (names ++ x ∷ []) c.deref_mut.result.now =
    subst (λ (gs : List Guess). AreGuesses (names ++ x ∷ []) gs) (sym c.deref_mut.ensures.value) (guesses_more names x c.self.inside.guesses.items c.self.invariant.1.1) in
    let guesses = c.set_guess.ensures.guesses (names ++ x ∷ []) at before in
    let n = c.self.inside.guesses.len in
    let long : length c.set_guess.new.guesses ≡ n = omega (arith, c.set_guess.ensures.len, c.deref_mut.ensures.len, ap (λ (gs : List Guess). length gs) c.deref_mut.ensures.value) in
    let kept : take n (c.set_guess.new.guesses ++ drop (length c.set_guess.new.guesses) c.self.inside.guesses.items) ≡ c.set_guess.new.guesses =
    take-append-le n c.set_guess.new.guesses _ (omega (arith, long)) ∙ take_all n c.set_guess.new.guesses (omega (arith, long)) in
    let all : AreGuesses (names ++ x ∷ []) (take n (c.set_guess.new.guesses ++ drop (length c.set_guess.new.guesses) c.self.inside.guesses.items)) = subst (λ (gs : List Guess). AreGuesses (names ++ x ∷ []) gs) (sym kept) guesses in
    (omega (arith, count, seen, c.requires), (lawful, subst (λ (ns : List (List ℕ)). AreGuesses ns (take n (c.set_guess.new.guesses ++ drop (length c.set_guess.new.guesses) c.self.inside.guesses.items))) (sym grown) all))
