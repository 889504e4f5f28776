-- Further events behind a history, one by one.
use Rattle.std.proofs.Common.{◌≡◌, ◌∙◌, ◌<◌, ◌+◌, ◌++◌, ℕ, List, [], ◌∷◌, length, get_or, map, take, refl, sym, ap}
use Rattle.std.proofs.lemmas.List.{map-append, take_more}
use Rattle.wsm_record.specs.Event.{Event}
use Rattle.wsm_log_text.specs.Needed.{fed_all}

fed_last : (past es : List Event) (e : Event) → fed_all past (es ++ e ∷ []) ≡ e ∷ fed_all past es
fed_last past [] e = refl
fed_last past (x ∷ es) e = fed_last (x ∷ past) es e

-- one more of some items that are seen as events
pub fed_more : {A : Type 0} (seen : A → Event) (past : List Event) (xs : List A) (i : ℕ) (x : A) → i < length xs → x ≡ get_or xs i x →
    fed_all past (map seen (take (i + 1) xs)) ≡ seen x ∷ fed_all past (map seen (take i xs))
fed_more seen past xs i x within is =
    ap (λ ys. fed_all past (map seen ys)) (take_more xs i x within)
    ∙ ap (fed_all past) (map-append seen (take i xs) (get_or xs i x ∷ []))
    ∙ fed_last past (map seen (take i xs)) (seen (get_or xs i x))
    ∙ ap (λ y. seen y ∷ fed_all past (map seen (take i xs))) (sym is)
