-- Lists of values, made one by one.
use Rattle.std.proofs.Common.{◌≡◌, ℕ, zero, suc, ◌+◌, ◌<◌, List, [], ◌∷◌, ◌++◌, map, take, length, get_or, Option, None, refl, sym, ◌∙◌, ap, arith}
use Rattle.std.proofs.lemmas.List.{take_more, map-append}
use Rattle.std.specs.Prelude.{slice_index_or}
use Rattle.serde_json.specs.Data.{Data}
use Rattle.serde_json.specs.View.{view}
use Rattle.serde_json.specs.declared.value.Value.{Value}
use Rattle.wsm_interval.specs.declared.Interval.{Interval}
use Rattle.wsm_record.specs.declared.words.CellType.{CellType}
use Rattle.wsm_record.specs.declared.words.CellType.TheVariants as cells
use Rattle.wsm_explain.specs.Declarations.{column_data}
use Rattle.wsm_explain.specs.Program.{columns_up_to}

-- a value behind those of the items before it
pub value_next : {X : Type 0} (f : X → Data) (xs : List X) (i : ℕ) (x : X) → i < length xs → x ≡ get_or xs i x
    → (vs : List Value) (v : Value) → map view vs ≡ map f (take i xs) → view v ≡ f x → map view (vs ++ v ∷ []) ≡ map f (take (i + 1) xs)
value_next f xs i x h e vs v before now =
    map-append view vs (v ∷ []) ∙ ap (λ ds. ds ++ view v ∷ []) before ∙ ap (λ d. map f (take i xs) ++ d ∷ []) now
    ∙ sym (ap (map f) (take_more xs i x h ∙ ap (λ y. take i xs ++ y ∷ []) (sym e)) ∙ map-append f (take i xs) (x ∷ []))

-- the same of other items
pub item_next : {X Y : Type 0} (f : X → Y) (xs : List X) (i : ℕ) (x : X) → i < length xs → x ≡ get_or xs i x
    → (ys : List Y) (y : Y) → ys ≡ map f (take i xs) → y ≡ f x → ys ++ y ∷ [] ≡ map f (take (i + 1) xs)
item_next f xs i x h e ys y before now =
    ap (λ zs. zs ++ y ∷ []) before ∙ ap (λ z. map f (take i xs) ++ z ∷ []) now
    ∙ sym (ap (map f) (take_more xs i x h ∙ ap (λ y. take i xs ++ y ∷ []) (sym e)) ∙ map-append f (take i xs) (x ∷ []))

-- the same of an item that is copied out of the list
pub copied_next : {X : Type 0} (f : X → Data) (xs : List X) (i : ℕ) (d : X) → i < length xs
    → (vs : List Value) (v : Value) → map view vs ≡ map f (take i xs) → view v ≡ f (get_or xs i d) → map view (vs ++ v ∷ []) ≡ map f (take (i + 1) xs)
copied_next f xs i d h vs v before now =
    map-append view vs (v ∷ []) ∙ ap (λ ds. ds ++ view v ∷ []) before ∙ ap (λ y. map f (take i xs) ++ y ∷ []) now
    ∙ sym (ap (map f) (take_more xs i d h) ∙ map-append f (take i xs) (get_or xs i d ∷ []))

get_any : {X : Type 0} (xs : List X) (i : ℕ) (d e : X) → i < length xs → get_or xs i d ≡ get_or xs i e
get_any [] i d e h = absurd (omega arith)
get_any (x ∷ xs) zero d e h = refl
get_any (x ∷ xs) (suc i) d e h = get_any xs i d e (omega arith)

-- a column behind those before it
pub typed_next : (ts : List CellType) (xs : List (Option Interval)) (i : ℕ) (d : CellType) → i < length ts
    → (vs : List Value) (v : Value) (x : Option Interval) → map view vs ≡ columns_up_to ts xs i → x ≡ slice_index_or xs i None → view v ≡ column_data (get_or ts i d) x
    → map view (vs ++ v ∷ []) ≡ columns_up_to ts xs (i + 1)
typed_next ts xs i d h vs v x before range now =
    let next : suc i ≡ i + 1 = omega arith in
    map-append view vs (v ∷ []) ∙ ap (λ ds. ds ++ view v ∷ []) before
    ∙ ap (λ (e : Data). columns_up_to ts xs i ++ e ∷ []) (now ∙ ap (λ (t : CellType). column_data t x) (get_any ts i d cells.Int h) ∙ ap (column_data (slice_index_or ts i cells.Int)) range)
    ∙ ap (columns_up_to ts xs) next
