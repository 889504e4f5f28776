-- Members that pass, as they are read.
use Rattle.std.proofs.Common.{◌≡◌, ◌∙◌, ℕ, List, [], ◌∷◌, ◌++◌, Bool, true, false, cond, Option, Some, None, option_map, option_and_then, refl, sym, ap, rules, arith, ◌-◌, ◌<◌, ◌≤◌, length}
use Rattle.std.specs.Borrow.{Bor}
use Rattle.json.specs.Token.{Token}
use Rattle.json.specs.Json.{Json, null, boolean, number, string, Members, member, Items, no_items, array, object, if_last, Parse, parse_map, read_key, members}
use Rattle.json.specs.Value.{value_view}
use Rattle.json.specs.declared.value.Value.{Value, String, Number, Null, the_lemmas}
use Rattle.json.specs.declared.value.Value as held
use Rattle.json.proofs.Grammar.{left, left_some, members_fail, members_more, read_key-shorter}
use Rattle.json.proofs.Trees.{members_before, one_more_member}
use Rattle.wsm_lines.specs.Members.{passes, passing, sifted}

none_left : (rest : List Token) → None ≡ Some rest → ⊥
none_left rest e = cc

some_is : {A : Type 0} (a : A) → Some a ≡ None → ⊥
some_is a e = cc

none_pair : (p : Json × List Token) → None ≡ Some p → ⊥
none_pair p e = cc

some_left : (t : Token) (ts : List Token) → t ∷ ts ≡ [] → ⊥
some_left t ts e = cc

abbrev rest_of : List Token → Option (Json × List Token) → List Token
rest_of other None = other
rest_of other (Some p) = p.1

-- a leaf is seen as itself
pub view_string : (A : Type 0) (s : Bor (List ℕ)) → value_view {A = A} (String s) ≡ string s.now
view_string A s = search (rules, the_lemmas)

pub view_number : (A : Type 0) (s : Bor (List ℕ)) → value_view {A = A} (Number s) ≡ number s.now
view_number A s = search (rules, the_lemmas)

pub view_bool : (A : Type 0) (t : Bool) → value_view {A = A} (held.Bool t) ≡ boolean t
view_bool A t = search (rules, the_lemmas)

pub view_null : (A : Type 0) → value_view {A = A} Null ≡ null
view_null A = search (rules, the_lemmas)

module _ (b : List Bool) where
  -- a member that passes
  kept : (k : List ℕ) (j : Json) (r : Option (Members × List Token)) → passes b k ≡ true → parse_map (passing b) (parse_map (member k j) r) ≡ parse_map (member k j) (parse_map (passing b) r)
  kept k j None is = refl
  kept k j (Some p) is = ap (λ c. Some (cond c (member k j (passing b p.0)) (passing b p.0), p.1)) is

  pub member_kept : {A : Type 0} (found : List (Bor (List ℕ) × Value A)) (m : Bor (List ℕ) × Value A) (r : Option (Members × List Token)) → passes b m.0.now ≡ true
      → parse_map (members_before found) (parse_map (passing b) (parse_map (member m.0.now (value_view m.1)) r)) ≡ parse_map (members_before (found ++ m ∷ [])) (parse_map (passing b) r)
  member_kept found m r is = ap (parse_map (members_before found)) (kept m.0.now (value_view m.1) r is) ∙ one_more_member found m (parse_map (passing b) r)

  -- one that doesn't
  pub member_passed : (k : List ℕ) (j : Json) (r : Option (Members × List Token)) → passes b k ≡ false → parse_map (passing b) (parse_map (member k j) r) ≡ parse_map (passing b) r
  member_passed k j None is = refl
  member_passed k j (Some p) is = ap (λ c. Some (cond c (member k j (passing b p.0)) (passing b p.0), p.1)) is

  pub sifted_object : (r : Option (Members × List Token)) → parse_map (sifted b) (parse_map object r) ≡ parse_map object (parse_map (passing b) r)
  sifted_object None = refl
  sifted_object (Some p) = refl

  pub sifted_array : (r : Option (Items × List Token)) (rest : List Token) → left r ≡ Some rest → parse_map (sifted b) (parse_map array r) ≡ Some (array no_items, rest)
  sifted_array None rest e = absurd (none_left rest e)
  sifted_array (Some p) rest e = ap (option_map (λ (ts : List Token). (array no_items, ts))) e

  -- the value of a whole text
  pub whole : (x : Option (Json × List Token)) (v : Json) (r : List Token) → parse_map (sifted b) x ≡ Some (v, r) → r ≡ [] → option_map (sifted b) (option_and_then (λ p. if_last p.0 p.1) x) ≡ Some v
  whole None v r e last = absurd (none_pair (v, r) e)
  whole (Some (j, [])) v r e last = ap (option_map (λ (p : Json × List Token). p.0)) e
  whole (Some (j, t ∷ ts)) v r e last = absurd (some_left t ts (ap (rest_of ts) e ∙ last))

  -- something stands behind it
  pub trailing : (x : Option (Json × List Token)) (v : Json) (t : Token) (r : List Token) → parse_map (sifted b) x ≡ Some (v, t ∷ r) → option_and_then (λ p. if_last p.0 p.1) x ≡ None
  trailing None v t r e = refl
  trailing (Some (j, [])) v t r e = absurd (some_left t r (sym (ap (rest_of r) e)))
  trailing (Some (j, u ∷ ts)) v t r e = refl

pub unmapped : {A B : Type 0} (f : A → B) (r : Option (A × List Token)) → parse_map f r ≡ None → r ≡ None
unmapped f None e = refl
unmapped f (Some p) e = absurd (some_is (f p.0, p.1) e)

-- ---- a turn of the walk over members

module _ (b : List Bool) (p : Parse Json) (n : ℕ) {A : Type 0} (read : Option (Members × List Token)) (found : List (Bor (List ℕ) × Value A)) (ts : List Token) (long : length ts ≤ n)
    (is : read ≡ parse_map (members_before found) (parse_map (passing b) (members p n ts))) where
  -- those that pass stand behind those that were found
  abbrev pub Goes : List (Bor (List ℕ) × Value A) → List Token → Type 0
  Goes now after = (m : ℕ) × (length after ≤ m) × (read ≡ parse_map (members_before now) (parse_map (passing b) (members p m after)))

  pub kept_turn : (k : Bor (List ℕ)) (v : Value A) (s r : List Token) → read_key ts ≡ Some (Some k.now, s) → p s ≡ Some (value_view v, r) → length r < length s → passes b k.now ≡ true
      → (now : List (Bor (List ℕ) × Value A)) (after : List Token) → now ≡ found ++ (k, v) ∷ [] → after ≡ r → Goes now after
  kept_turn k v s r key value shorter out now after grown same =
      let less = read_key-shorter ts (Some k.now) s key in
      let length_same : length after ≡ length r = ap (λ (l : List Token). length l) same in (
        n - 1,
        omega (arith, long, less, shorter, length_same),
        is
            ∙ ap (λ x. parse_map (members_before found) (parse_map (passing b) x)) (members_more p n k.now ts s r (value_view v) (omega (arith, long, less)) key value)
            ∙ member_kept b found (k, v) (members p (n - 1) r) out
            ∙ (λ i. parse_map (members_before (sym grown i)) (parse_map (passing b) (members p (n - 1) (sym same i)))),
      )

  pub passed_turn : (k : List ℕ) (s r : List Token) → read_key ts ≡ Some (Some k, s) → left (p s) ≡ Some r → length r < length s → passes b k ≡ false
      → (now : List (Bor (List ℕ) × Value A)) (after : List Token) → now ≡ found → after ≡ r → Goes now after
  passed_turn k s r key value shorter out now after grown same =
      let less = read_key-shorter ts (Some k) s key in
      let j = left_some (p s) r value in
      let length_same : length after ≡ length r = ap (λ (l : List Token). length l) same in (
        n - 1,
        omega (arith, long, less, shorter, length_same),
        is
            ∙ ap (λ x. parse_map (members_before found) (parse_map (passing b) x)) (members_more p n k ts s r j.0 (omega (arith, long, less)) key j.1)
            ∙ ap (parse_map (members_before found)) (member_passed b k j.0 (members p (n - 1) r) out)
            ∙ (λ i. parse_map (members_before (sym grown i)) (parse_map (passing b) (members p (n - 1) (sym same i)))),
      )

  pub failed_turn : (k : List ℕ) (s : List Token) → read_key ts ≡ Some (Some k, s) → p s ≡ None → read ≡ None
  failed_turn k s key none = is ∙ ap (λ x. parse_map (members_before found) (parse_map (passing b) x)) (members_fail p n k ts s key none)
