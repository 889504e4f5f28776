-- Lists that are written and read value by value.
use Rattle.std.proofs.Common.{◌≡◌, ◌∙◌, ℕ, ◌+◌, ◌-◌, ◌^◌, ◌<◌, ◌≤◌, zero, suc, subst, List, [], ◌∷◌, ◌++◌, length, map, take, get_or, Option, Some, None, option_map, option_and_then, refl, sym, ap, arith, append_assoc}
use Rattle.std.proofs.lemmas.List.{append-nil, length-map, map-append, take_more, take_all}
use Rattle.wsm_saved.specs.Numbers.{number_text}
use Rattle.wsm_saved.specs.Lists.{EachFits, ListFits, ReadsBack, list_text, read_list, read_some, texts}
use Rattle.wsm_saved.specs.Back.{list_back}

-- these values were written behind a text
pub record WroteSome {A : Type 0} (text_of : A → List ℕ) (Fits : A → Type 0) (before now : List ℕ) (xs : List A) : Type 0 where
  pub text : now ≡ before ++ texts text_of xs
  pub fits : EachFits Fits xs

texts-snoc : {A : Type 0} (text_of : A → List ℕ) (xs : List A) (x : A) → texts text_of (xs ++ x ∷ []) ≡ texts text_of xs ++ text_of x
texts-snoc text_of [] x = append-nil (text_of x)
texts-snoc text_of (y ∷ ys) x = ap (λ t. text_of y ++ t) (texts-snoc text_of ys x) ∙ sym (append_assoc (text_of y) (texts text_of ys) (text_of x))

EachFits-snoc : {A : Type 0} (Fits : A → Type 0) (xs : List A) (x : A) → EachFits Fits xs → Fits x → EachFits Fits (xs ++ x ∷ [])
EachFits-snoc Fits [] x fits more = (more, tt)
EachFits-snoc Fits (y ∷ ys) x fits more = (fits.0, EachFits-snoc Fits ys x fits.1 more)

pub WroteSome-none : {A : Type 0} (text_of : A → List ℕ) (Fits : A → Type 0) (before : List ℕ) → WroteSome text_of Fits before before []
WroteSome-none text_of Fits before = record { text = sym (append-nil before); fits = tt }

WroteSome-snoc : {A : Type 0} (text_of : A → List ℕ) (Fits : A → Type 0) (before now new : List ℕ) (xs : List A) (x : A)
    → WroteSome text_of Fits before now xs → new ≡ now ++ text_of x → Fits x → WroteSome text_of Fits before new (xs ++ x ∷ [])
WroteSome-snoc text_of Fits before now new xs x wrote is fits = record {
  text = is ∙ ap (λ t. t ++ text_of x) wrote.text ∙ append_assoc before (texts text_of xs) (text_of x) ∙ ap (λ t. before ++ t) (sym (texts-snoc text_of xs x));
  fits = EachFits-snoc Fits xs x wrote.fits fits;
}

shown_more : {V A : Type 0} (shown : V → A) (vs : List V) (i : ℕ) (v : V) → i < length vs → v ≡ get_or vs i v → map shown (take (i + 1) vs) ≡ map shown (take i vs) ++ shown v ∷ []
shown_more shown vs i v within is = ap (map shown) (take_more vs i v within ∙ ap (λ w. take i vs ++ w ∷ []) (sym is)) ∙ map-append shown (take i vs) (v ∷ [])

-- one more of some values was written
pub WroteSome-more : {V A : Type 0} (shown : V → A) (text_of : A → List ℕ) (Fits : A → Type 0) (before now new : List ℕ) (vs : List V) (i : ℕ) (v : V)
    → i < length vs → v ≡ get_or vs i v → WroteSome text_of Fits before now (map shown (take i vs)) → new ≡ now ++ text_of (shown v) → Fits (shown v)
    → WroteSome text_of Fits before new (map shown (take (i + 1) vs))
WroteSome-more shown text_of Fits before now new vs i v within is wrote more fits =
    subst (WroteSome text_of Fits before new) (sym (shown_more shown vs i v within is)) (WroteSome-snoc text_of Fits before now new (map shown (take i vs)) (shown v) wrote more fits)

WroteSome-all : {V A : Type 0} (shown : V → A) (text_of : A → List ℕ) (Fits : A → Type 0) (before now : List ℕ) (vs : List V) (i : ℕ)
    → length vs ≤ i → WroteSome text_of Fits before now (map shown (take i vs)) → WroteSome text_of Fits before now (map shown vs)
WroteSome-all shown text_of Fits before now vs i all wrote = subst (λ ws. WroteSome text_of Fits before now (map shown ws)) (take_all i vs all) wrote

-- all were written, behind their count
pub WroteSome-list : {V A : Type 0} (shown : V → A) (text_of : A → List ℕ) (Fits : A → Type 0) (old now : List ℕ) (vs : List V) (i : ℕ)
    → length vs ≤ i → WroteSome text_of Fits (old ++ number_text (length vs)) now (map shown (take i vs)) → now ≡ old ++ list_text text_of (map shown vs)
WroteSome-list shown text_of Fits old now vs i all wrote =
    (WroteSome-all shown text_of Fits (old ++ number_text (length vs)) now vs i all wrote).text
    ∙ append_assoc old (number_text (length vs)) (texts text_of (map shown vs))
    ∙ ap (λ n. old ++ (number_text n ++ texts text_of (map shown vs))) (sym (length-map vs shown))

pub WroteSome-fits : {V A : Type 0} (shown : V → A) (text_of : A → List ℕ) (Fits : A → Type 0) (old now : List ℕ) (vs : List V) (i : ℕ)
    → length vs ≤ i → WroteSome text_of Fits (old ++ number_text (length vs)) now (map shown (take i vs)) → length vs < 2 ^ 64 → ListFits Fits (map shown vs)
WroteSome-fits shown text_of Fits old now vs i all wrote few =
    (subst (λ n. n < 2 ^ 64) (sym (length-map vs shown)) few, (WroteSome-all shown text_of Fits (old ++ number_text (length vs)) now vs i all wrote).fits)

-- what is read behind some values
abbrev pub behind : {A : Type 0} → List A → Option (List A × List ℕ) → Option (List A × List ℕ)
behind xs o = option_map (λ q. (xs ++ q.0, q.1)) o

behind-more : {A : Type 0} (xs : List A) (x : A) (o : Option (List A × List ℕ)) → behind xs (option_map (λ q. (x ∷ q.0, q.1)) o) ≡ behind (xs ++ x ∷ []) o
behind-more xs x None = refl
behind-more xs x (Some q) = ap (λ ys. Some (ys, q.1)) (sym (append_assoc xs (x ∷ []) q.0))

-- one more is read
pub read_more : {A : Type 0} (read : List ℕ → Option (A × List ℕ)) (xs : List A) (n : ℕ) (now new : List ℕ) (x : A) → 0 < n → read now ≡ Some (x, new)
    → behind xs (read_some read n now) ≡ behind (xs ++ x ∷ []) (read_some read (n - 1) new)
read_more read xs zero now new x some is = absurd (omega arith)
read_more read xs (suc n) now new x some is =
    let one_less : n ≡ suc n - 1 = omega arith in
    ap (λ o. behind xs (option_and_then (λ p. option_map (λ q. (p.0 ∷ q.0, q.1)) (read_some read n p.1)) o)) is
    ∙ behind-more xs x (read_some read n new)
    ∙ ap (λ (k : ℕ). behind (xs ++ x ∷ []) (read_some read k new)) one_less

pub restored_more : {V A : Type 0} (shown : V → A) (read : List ℕ → Option (A × List ℕ)) (values new : List V) (v : V) (n : ℕ) (now left : List ℕ) (all : Option (List A × List ℕ))
    → all ≡ behind (map shown values) (read_some read n now) → 0 < n → Some (shown v, left) ≡ read now → new ≡ values ++ v ∷ []
    → all ≡ behind (map shown new) (read_some read (n - 1) left)
restored_more shown read values new v n now left all so_far some is more =
    so_far ∙ read_more read (map shown values) n now left (shown v) some (sym is)
    ∙ ap (λ ys. behind ys (read_some read (n - 1) left)) (sym (ap (map shown) more ∙ map-append shown values (v ∷ [])))

-- a list that was written is what is read
pub list_read : {A : Type 0} (text_of : A → List ℕ) (read : List ℕ → Option (A × List ℕ)) (Fits : A → Type 0) → ReadsBack text_of read Fits
    → (xs : List A) (rest old : List ℕ) → ListFits Fits xs → old ≡ list_text text_of xs ++ rest → read_list read old ≡ Some (xs, rest)
list_read text_of read Fits law xs rest old fits is = ap (λ t. read_list read t) is ∙ list_back text_of read Fits law xs rest fits
