-- Lists in parts.
use Rattle.std.proofs.Common.{◌≡◌, ◌∙◌, subst, ℕ, suc, ◌+◌, ◌≤◌, ◌<◌, List, [], ◌∷◌, ◌++◌, length, drop, refl, sym, ap, arith, append_assoc, append-nil, length-append, length-drop}
use Rattle.std.proofs.lemmas.List.{drop_at, drop-append-le}
use Rattle.wsm_protocol.specs.Runs.{Text}
use Rattle.wsm_protocol.specs.World.{Item, numbered, all_rows}

-- ---- lines from a place on

pub more_there : (all : List Text) (at : ℕ) (line : Text) (more : List Text) → drop at all ≡ line ∷ more → at < length all
more_there all at line more is =
    let long : length (drop at all) ≡ suc (length more) = ap length is in
    omega (arith, long, length-drop at all)

-- these are lines of all from a place on, with their numbers
abbrev pub IsStream : List Text → ℕ → List Item → Type 0
IsStream all at [] = Unit {0}
IsStream all at (item ∷ items) = (item.number ≡ at + 1) × ((more : List Text) × (drop at all ≡ item.line ∷ more)) × IsStream all (at + 1) items

pub stream_numbered : (all front lines back : List Text) (at : ℕ) → all ≡ front ++ (lines ++ back) → at ≡ length front → IsStream all at (numbered at lines)
stream_numbered all front [] back at is here = tt
stream_numbered all front (line ∷ lines) back at is here =
    let next : at + 1 ≡ length (front ++ line ∷ []) = omega (arith, here, length-append front (line ∷ [])) in (
      refl,
      (lines ++ back, ap (λ t. drop at t) is ∙ drop_at front _ at (sym here)),
      stream_numbered all (front ++ line ∷ []) lines back (at + 1) (is ∙ sym (append_assoc front (line ∷ []) (lines ++ back))) next,
    )

pub stream_grows : (all new : List Text) (at : ℕ) (items : List Item) → IsStream all at items → IsStream (all ++ new) at items
stream_grows all new at [] h = tt
stream_grows all new at (item ∷ items) h =
    let inside = more_there all at item.line (h.1).0 (h.1).1 in
    let within : at ≤ length all = omega (arith, inside) in (
      h.0,
      ((h.1).0 ++ new, drop-append-le at all new within ∙ ap (λ t. t ++ new) (h.1).1),
      stream_grows all new (at + 1) items h.2,
    )

pub stream_append : (all : List Text) (at : ℕ) (xs ys : List Item) → IsStream all at xs → IsStream all (at + length xs) ys → IsStream all at (xs ++ ys)
stream_append all at [] ys one two =
    let same : at + 0 ≡ at = omega arith in
    subst (λ n. IsStream all n ys) same two
stream_append all at (x ∷ xs) ys one two =
    let same : at + suc (length xs) ≡ (at + 1) + length xs = omega arith in
    (one.0, one.1, stream_append all (at + 1) xs ys one.2 (subst (λ n. IsStream all n ys) same two))

-- ---- chunks

pub rows_append : (xs ys : List (List Text)) → all_rows (xs ++ ys) ≡ all_rows xs ++ all_rows ys
rows_append [] ys = refl
rows_append (x ∷ xs) ys = ap (λ t. x ++ t) (rows_append xs ys) ∙ sym (append_assoc x (all_rows xs) (all_rows ys))

pub rows_more : (chunks : List (List Text)) (chunk : List Text) → all_rows (chunks ++ chunk ∷ []) ≡ all_rows chunks ++ chunk
rows_more chunks chunk = rows_append chunks (chunk ∷ []) ∙ ap (λ t. all_rows chunks ++ t) (append-nil chunk)
