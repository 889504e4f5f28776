-- Tokens that are written one behind the other.
use Rattle.std.proofs.Common.{◌≡◌, ℕ, ◌+◌, ◌<◌, List, [], ◌∷◌, ◌++◌, map, take, length, get_or, refl, sym, ◌∙◌, ap, append_assoc, arith}
use Rattle.std.specs.List.{join_with_byte, flat_map}
use Rattle.std.proofs.lemmas.List.{take_more, map-append, length-map, length-take-le, flat_map_more}
use Rattle.std.proofs.lemmas.Simd.{map-map}
use Rattle.std.proofs.lemmas.Grind.{common_steps}
use Rattle.wsm_tokens.specs.declared.token.Sign.TheVariants.{Comma}
use Rattle.wsm_tokens.specs.Tokens.{Token, Mark}
use Rattle.wsm_tokens.specs.Written.{token_text, written}
use Rattle.wsm_query.specs.Adds.{adds, comma_before}
use Rattle.wsm_query.specs.Print.{with_commas}

joined : (text : List ℕ) (t : Token) (ts : List Token) → text ++ 32 ∷ join_with_byte 32 (map token_text (t ∷ ts)) ≡ adds text (t ∷ ts)
joined text t [] = refl
joined text t (u ∷ us) = sym (append_assoc text (32 ∷ token_text t) (32 ∷ join_with_byte 32 (map token_text (u ∷ us)))) ∙ joined (text ++ 32 ∷ token_text t) u us

-- the text of tokens is that of the first with the others added
pub written-adds : (t : Token) (ts : List Token) → written (t ∷ ts) ≡ adds (token_text t) ts
unfolding written
written-adds t [] = refl
written-adds t (u ∷ us) = joined (token_text t) u us

-- tokens are added in two parts
pub adds-append : (text : List ℕ) (ts us : List Token) → adds text (ts ++ us) ≡ adds (adds text ts) us
adds-append text [] us = refl
adds-append text (t ∷ ts) us = adds-append (text ++ 32 ∷ token_text t) ts us

pub ruleset parts = (adds-append, written-adds)

-- a part behind others stands behind a comma
with_commas-append : (us : List Token) (tss : List (List Token)) (ts : List Token) → with_commas ((us ∷ tss) ++ ts ∷ []) ≡ with_commas (us ∷ tss) ++ Mark Comma ∷ ts
with_commas-append us [] ts = refl
with_commas-append us (vs ∷ tss) ts = rw (with_commas-append vs tss ts) (sym (append_assoc us (Mark Comma ∷ with_commas (vs ∷ tss)) (Mark Comma ∷ ts)))

comma_behind : (us : List Token) (tss : List (List Token)) → comma_before (length (us ∷ tss)) ≡ Mark Comma ∷ []
comma_behind us tss = grind (arith, common_steps)

-- a part and what stands between it and those before it
commas_more : (text : List ℕ) (tss : List (List Token)) (ts : List Token) → adds (adds (adds text (with_commas tss)) (comma_before (length tss))) ts ≡ adds text (with_commas (tss ++ ts ∷ []))
commas_more text [] ts = refl
commas_more text (us ∷ tss) ts =
    ap (λ vs. adds (adds (adds text (with_commas (us ∷ tss))) vs) ts) (comma_behind us tss)
    ∙ sym (adds-append text (with_commas (us ∷ tss)) (Mark Comma ∷ ts))
    ∙ ap (adds text) (sym (with_commas-append us tss ts))

-- one more element is at the end of those before it
seen_more : {X Y : Type 0} (f : X → Y) (xs : List X) (i : ℕ) (x : X) → i < length xs → x ≡ get_or xs i x → map f (take (i + 1) xs) ≡ map f (take i xs) ++ f x ∷ []
seen_more f xs i x h e = ap (map f) (take_more xs i x h ∙ ap (λ y. take i xs ++ y ∷ []) (sym e)) ∙ map-append f (take i xs) (x ∷ [])

-- the next element behind a comma, where it isn't the first
pub commas_next : {X : Type 0} (f : X → List Token) (xs : List X) (i : ℕ) (x : X) → i < length xs → x ≡ get_or xs i x
    → (start now mid next : List ℕ) → now ≡ adds start (with_commas (map f (take i xs))) → mid ≡ adds now (comma_before i) → next ≡ adds mid (f x)
    → next ≡ adds start (with_commas (map f (take (i + 1) xs)))
commas_next f xs i x h e start now mid next a b d =
    let tss = map f (take i xs) in
    let count : i ≡ length tss = sym (length-map (take i xs) f ∙ length-take-le i xs (omega arith)) in
    d ∙ ap (λ t. adds t (f x)) (b ∙ ap (λ n. adds now (comma_before n)) count ∙ ap (λ t. adds t (comma_before (length tss))) a)
    ∙ commas_more start tss (f x)
    ∙ ap (λ us. adds start (with_commas us)) (sym (seen_more f xs i x h e))

-- the same for elements that are seen as others
pub commas_next_of : {X Y : Type 0} (f : Y → List Token) (g : X → Y) (xs : List X) (i : ℕ) (x : X) → i < length xs → x ≡ get_or xs i x
    → (start now mid next : List ℕ) → now ≡ adds start (with_commas (map f (map g (take i xs)))) → mid ≡ adds now (comma_before i) → next ≡ adds mid (f (g x))
    → next ≡ adds start (with_commas (map f (map g (take (i + 1) xs))))
commas_next_of f g xs i x h e start now mid next a b d =
    commas_next (λ y. f (g y)) xs i x h e start now mid next (a ∙ ap (λ tss. adds start (with_commas tss)) (map-map f g (take i xs))) b d
    ∙ ap (λ tss. adds start (with_commas tss)) (sym (map-map f g (take (i + 1) xs)))

-- the next element behind those before it
pub parts_next : {X Y : Type 0} (f : Y → List Token) (g : X → Y) (xs : List X) (i : ℕ) (x : X) → i < length xs → x ≡ get_or xs i x
    → (start now next : List ℕ) → now ≡ adds start (flat_map f (map g (take i xs))) → next ≡ adds now (f (g x))
    → next ≡ adds start (flat_map f (map g (take (i + 1) xs)))
parts_next f g xs i x h e start now next a b =
    b ∙ ap (λ t. adds t (f (g x))) a
    ∙ sym (adds-append start (flat_map f (map g (take i xs))) (f (g x)))
    ∙ ap (adds start) (flat_map_more f [] (map g (take i xs)) (g x))
    ∙ ap (λ ys. adds start (flat_map f ys)) (sym (seen_more g xs i x h e))
