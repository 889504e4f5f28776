-- What goes on as a record comes.
use Rattle.std.proofs.Common.{◌≡◌, ◌∙◌, ◌++◌, ◌+◌, ◌<◌, ℕ, max, Bool, true, false, List, [], ◌∷◌, length, map, take, drop, refl, sym, ap, subst, append_assoc}
use Rattle.std.proofs.lemmas.List.{take_more}
use Rattle.std.specs.Prelude.{Result, Ok, Err, OnOk, get_or, if◌then◌else◌}
use Rattle.wsm_watermarks.specs.declared.held.Timed.{Timed}
use Rattle.wsm_watermarks.specs.declared.rule.Rule.{Rule}
use Rattle.wsm_watermarks.specs.Held.{Item, Passed, Went, all_passed, handed, is_near, last_mark, left, let_go, mark_item, queued, waiting, went_on}
use Rattle.wsm_turns.specs.Numbered.{Numbered}
use Rattle.wsm_turns.specs.Turns.{numbered}

-- what goes on and what waits, where the record may pass or not
abbrev pub parts : {T : Type 0} → Bool → ℕ → Timed T → List (Timed T) → List (Item T) → ℕ → Went T
parts b room row still out mark = record { out = out ++ handed b room row still; mark = mark; held = waiting b room row still }

abbrev passes : {T : Type 0} → Timed T → List (Timed T) → List (Item T) → ℕ → Went T
passes row still out mark = record { out = out ++ Passed row ∷ []; mark = mark; held = still }

abbrev waits : {T : Type 0} → ℕ → Timed T → List (Timed T) → List (Item T) → ℕ → Went T
waits room row still out mark = record { out = out ++ all_passed (drop room (queued row still)); mark = mark; held = take room (queued row still) }

by_parts : {T : Type 0} (b : Bool) (room : ℕ) (row : Timed T) (still : List (Timed T)) (out : List (Item T)) (mark : ℕ) →
    (if b then passes row still out mark else waits room row still out mark) ≡ parts b room row still out mark
by_parts true room row still out mark = refl
by_parts false room row still out mark = refl

-- what goes on is what waited, the watermark, and the record or what it takes the room of
pub went_parts : {T : Type 0} (rule : Rule) (ahead room mark : ℕ) (held : List (Timed T)) (row : Timed T) (top : ℕ) →
    went_on rule ahead room (record { out = []; mark = mark; held = held }) (row, top)
    ≡ parts (is_near (top + ahead) row) room row (left (top + ahead) held)
    (let_go rule ahead top mark held ++ mark_item (last_mark mark (let_go rule ahead top mark held)) top) (max (last_mark mark (let_go rule ahead top mark held)) top)
went_parts rule ahead room mark held row top =
    by_parts (is_near (top + ahead) row) room row (left (top + ahead) held)
    (let_go rule ahead top mark held ++ mark_item (last_mark mark (let_go rule ahead top mark held)) top) (max (last_mark mark (let_go rule ahead top mark held)) top)

-- items one behind the other
pub map_append : {A B : Type 0} (f : A → B) (xs ys : List A) → map f (xs ++ ys) ≡ map f xs ++ map f ys
map_append f [] ys = refl
map_append f (x ∷ xs) ys = ap (λ zs. f x ∷ zs) (map_append f xs ys)

-- one more of those that wait
pub one_more : (rows : List (Timed Numbered)) (i : ℕ) (row : Timed Numbered) → i < length rows → row ≡ get_or rows i row →
    map (λ r. r.row) (take (i + 1) rows) ≡ map (λ r. r.row) (take i rows) ++ row.row ∷ []
one_more rows i row within is =
    ap (map (λ r. r.row)) (take_more rows i row within ∙ ap (λ (r : Timed Numbered). take i rows ++ r ∷ []) (sym is)) ∙ map_append (λ r. r.row) (take i rows) (row ∷ [])

module _ {S : Type 0} (Took : S → S → List Numbered → Type 0) (join : (a b c : S) (gs hs : List Numbered) → Took a b gs → Took b c hs → Took a c (gs ++ hs)) where
  -- what waited, a watermark where it has risen, and what is handed on
  pub took_on : (t0 t1 t2 t3 : S) (number : ℕ) (gone marks more : List (Item Numbered)) →
      Took t0 t1 (map (numbered number) gone) → Took t1 t2 (map (numbered number) marks) → Took t2 t3 (map (numbered number) more) →
      Took t0 t3 (map (numbered number) ((gone ++ marks) ++ more))
  took_on t0 t1 t2 t3 number gone marks more first second third =
      let n = numbered number in
      let same : map n ((gone ++ marks) ++ more) ≡ map n gone ++ (map n marks ++ map n more) =
      ap (map n) (append_assoc gone marks more) ∙ map_append n gone (marks ++ more) ∙ ap (λ (l : List Numbered). map n gone ++ l) (map_append n marks more) in
      subst (Took t0 t3) (sym same) (join t0 t1 t3 (map n gone) (map n marks ++ map n more) first (join t1 t2 t3 (map n marks) (map n more) second third))

  -- the same where a record is behind them
  pub took_more : (t0 t1 t2 t3 : S) (number : ℕ) (gone marks : List (Item Numbered)) (row : Timed Numbered) →
      Took t0 t1 (map (numbered number) gone) → Took t1 t2 (map (numbered number) marks) → Took t2 t3 (row.row ∷ []) →
      Took t0 t3 (map (numbered number) (gone ++ (marks ++ Passed row ∷ [])))
  took_more t0 t1 t2 t3 number gone marks row first second third =
      let n = numbered number in
      let same : map n (gone ++ (marks ++ Passed row ∷ [])) ≡ map n gone ++ (map n marks ++ row.row ∷ []) =
      map_append n gone (marks ++ Passed row ∷ []) ∙ ap (λ (l : List Numbered). map n gone ++ l) (map_append n marks (Passed row ∷ [])) in
      subst (Took t0 t3) (sym same) (join t0 t1 t3 (map n gone) (map n marks ++ row.row ∷ []) first (join t1 t2 t3 (map n marks) (row.row ∷ []) second third))

-- two facts of an answer
pub on_ok_both : {A E : Type 0} (P Q : Type 0) (r : Result A E) → OnOk r P → OnOk r Q → OnOk r (P × Q)
on_ok_both P Q (Ok x) h k = (h, k)
on_ok_both P Q (Err e) h k = tt
