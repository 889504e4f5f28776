-- Rows that go, one after the other.
use Rattle.std.proofs.Common.{◌≡◌, ◌≤◌, ◌+◌, ℕ, true, List, [], ◌∷◌, ◌++◌, refl, sym, ap, ◌∙◌}
use Rattle.std.proofs.lemmas.Bool.{le-leb, not-true}
use Rattle.std.proofs.lemmas.List.{append-nil, append_assoc}
use Rattle.std.specs.List.{AllByRecursion}
use Rattle.wsm_watermarks.specs.declared.held.Timed.{Timed}
use Rattle.wsm_watermarks.specs.declared.rule.Rule.{Rule}
use Rattle.wsm_watermarks.specs.Held.{Item, Passed, is_far, is_near, last_mark, left, let_go, mark_for, mark_item}
use Rattle.wsm_watermarks.proofs.KeptRows.{item_last, mark_goes_on}

-- what was handed on since some rows were held, and what is left to go, is all that goes of them
pub record GoesOn {T : Type 0} (rule : Rule) (ahead top told last : ℕ) (old held : List (Timed T)) (before out : List (Item T)) : Type 0 where
  pub items : out ++ let_go rule ahead top last held ≡ before ++ let_go rule ahead top told old
  pub mark : last_mark last (let_go rule ahead top last held) ≡ last_mark told (let_go rule ahead top told old)
  pub rows : left (top + ahead) held ≡ left (top + ahead) old

module _ {T : Type 0} (rule : Rule) (ahead top : ℕ) where
  near : (r : Timed T) → r.time ≤ top + ahead → is_near (top + ahead) r ≡ true
  near r h = le-leb r.time (top + ahead) h

  -- one goes
  one_goes : (last : ℕ) (r : Timed T) (rs : List (Timed T)) → r.time ≤ top + ahead → let_go rule ahead top last (r ∷ rs) ≡ mark_item last (mark_for rule top last r.time) ++ Passed r ∷ let_go rule ahead top (mark_for rule top last r.time) rs
  one_goes last r rs h = let is = near r h in rw is refl

  one_left : (r : Timed T) (rs : List (Timed T)) → r.time ≤ top + ahead → left (top + ahead) (r ∷ rs) ≡ left (top + ahead) rs
  one_left r rs h = let is = near r h in rw is refl

  -- one more goes
  pub goes_one : (told mark : ℕ) (r : Timed T) (rs old : List (Timed T)) (before out : List (Item T)) → r.time ≤ top + ahead → GoesOn rule ahead top told mark old (r ∷ rs) before out →
      GoesOn rule ahead top told (mark_for rule top mark r.time) old rs before (out ++ (mark_item mark (mark_for rule top mark r.time) ++ Passed r ∷ []))
  goes_one told mark r rs old before out near k =
      let next = mark_for rule top mark r.time in
      let rest = let_go rule ahead top next rs in
      let gone = one_goes mark r rs near in
      let joined : (out ++ (mark_item mark next ++ Passed r ∷ [])) ++ rest ≡ out ++ (mark_item mark next ++ Passed r ∷ rest) =
      append_assoc out (mark_item mark next ++ Passed r ∷ []) rest ∙ ap (λ (xs : List (Item T)). out ++ xs) (append_assoc (mark_item mark next) (Passed r ∷ []) rest) in
      record {
        items = joined ∙ ap (λ (xs : List (Item T)). out ++ xs) (sym gone) ∙ k.items;
        mark = sym (item_last mark next (Passed r ∷ rest) (mark_goes_on rule ahead top mark r.time)) ∙ ap (last_mark mark) (sym gone) ∙ k.mark;
        rows = sym (one_left r rs near) ∙ k.rows;
      }

  -- none goes any more
  none_goes : (last : ℕ) (rs : List (Timed T)) → AllByRecursion (λ r. is_far (top + ahead) r ≡ true) rs → (let_go rule ahead top last rs ≡ []) × (left (top + ahead) rs ≡ rs)
  none_goes last [] far = (refl, refl)
  none_goes last (r ∷ rs) far = let is = not-true (is_near (top + ahead) r) far.0 in (rw is refl, rw is refl)

  pub record Gone (told last : ℕ) (old held : List (Timed T)) (before out : List (Item T)) : Type 0 where
    pub items : out ≡ before ++ let_go rule ahead top told old
    pub mark : last ≡ last_mark told (let_go rule ahead top told old)
    pub rows : held ≡ left (top + ahead) old

  pub goes_last : (told last : ℕ) (old held : List (Timed T)) (before out : List (Item T)) → GoesOn rule ahead top told last old held before out → AllByRecursion (λ r. is_far (top + ahead) r ≡ true) held → Gone told last old held before out
  goes_last told last old held before out k far =
      let none = none_goes last held far in
      record {
        items = sym (append-nil out) ∙ ap (λ (xs : List (Item T)). out ++ xs) (sym none.0) ∙ k.items;
        mark = ap (last_mark last) (sym none.0) ∙ k.mark;
        rows = sym none.1 ∙ k.rows;
      }
