-- Where panes retract, a machine that keeps summaries withdraws on a record or a watermark as one that
-- keeps the panes' records.
use Rattle.std.proofs.Common.{◌≡◌, ℕ, List, [], ◌∷◌, ◌++◌, ℤ, Option, Some, None, is_some, cond, refl, ap, ◌∙◌}
use Rattle.std.specs.Prelude.{filter, filter_map, option_map}
use Rattle.std.specs.List.{cons_option}
use Rattle.wsm_record.specs.declared.cell.Cell.{Cell}
use Rattle.wsm_record.specs.declared.words.Mode.{Mode}
use Rattle.wsm_record.specs.declared.words.Mode.TheVariants.{Retracting}
use Rattle.wsm_windows.specs.declared.window.PaneKind.{PaneKind}
use Rattle.wsm_windows.specs.declared.window.Shape.{Shape}
use Rattle.wsm_windows.specs.declared.window.Shape.TheVariants.{Fixed, Sliding, Session}
use Rattle.wsm_windows.specs.declared.place.Place.{Place}
use Rattle.wsm_windows.specs.Places.{at}
use Rattle.wsm_semantics.specs.Query.{Datum, Query}
use Rattle.wsm_semantics.specs.Kept as kept
use Rattle.wsm_semantics.specs.Kept.{Kept, Stands, is_linked}
use Rattle.wsm_semantics.specs.Summaries.{Plan, IsLawful, Runs, Pane, kind_by_record, kind_by_watermark, joined_all, written_by, parted, parted_by, withdrawn_entering, withdrawn_firing, withdrawn_by_record, withdrawn_by_watermark, standing_of, pane_of, summaries}
use Rattle.wsm_semantics.proofs.Images.{where-summaries, joined-summaries, linked_own, entered-summaries, same_kind}

module _ {X : Type 0} (plan : Plan X) (lawful : IsLawful plan) (q : Query) (runs : Runs plan q) (retracting : q.mode ≡ Retracting) where
  written-retracting : (p : Place) (s : Stands) → written_by p (standing_of plan Retracting p.key s) ≡ kept.written_by q p s
  written-retracting p kept.Unfired = refl
  written-retracting p (kept.Firing window fired) = ap (option_map (λ columns. (at p.key window, columns))) (runs.row p.key fired)
  written-retracting p kept.Joined = refl

  written-summary : (p : Place) (s : Stands) → written_by p (standing_of plan q.mode p.key s) ≡ kept.written_by q p s
  written-summary p s = ap (λ (m : Mode). written_by p (standing_of plan m p.key s)) retracting ∙ written-retracting p s

  each_written : (es : List (Place × Kept)) → filter_map (λ e. written_by e.0 e.1.stands) (summaries plan q.mode es) ≡ filter_map (λ e. kept.written_by q e.0 e.1.stands) es
  each_written [] = refl
  each_written (e ∷ es) = λ i. cons_option (written-summary e.0 e.1.stands i) (each_written es i)

  parted-summaries : (k : ℕ) (s : Stands) (es : List (Place × Kept)) → parted (standing_of plan q.mode k s) (summaries plan q.mode es) ≡ kept.parted q s es
  parted-summaries k kept.Unfired es = refl
  parted-summaries k (kept.Firing window fired) es = refl
  parted-summaries k kept.Joined es = each_written es

  parted_by-summaries : (k : ℕ) (es : List (Place × Kept)) (o : Option Kept) → parted_by (summaries plan q.mode es) (option_map (pane_of plan q.mode k) o) ≡ kept.parted_by q es o
  parted_by-summaries k es None = refl
  parted_by-summaries k es (Some h) = parted-summaries k h.stands es

  entering-summaries : (shape : Shape) (d : Datum) (es : List (Place × Kept)) → withdrawn_entering plan shape d (summaries plan q.mode es) ≡ kept.withdrawn_entering q shape d es
  entering-summaries (Fixed size) d es = refl
  entering-summaries (Sliding size period) d es = refl
  entering-summaries (Session gap) d es =
      let parts : List (Place × Kept) = filter (λ e. is_linked gap d e.0) es in
      ap (λ (ps : List (Place × Pane X)). parted_by ps (joined_all plan ps)) (where-summaries plan q.mode (is_linked gap d) es)
      ∙ ap (parted_by (summaries plan q.mode parts)) (joined-summaries plan q.mode lawful d.key parts (linked_own plan q.mode lawful gap d es))
      ∙ parted_by-summaries d.key parts (kept.joined_all parts)

  firing-summaries : (kind : Place → Pane X → Option PaneKind) (kind_of : Place → Kept → Option PaneKind) → ((p : Place) (h : Kept) → kind p (pane_of plan q.mode p.key h) ≡ kind_of p h) →
      (es : List (Place × Kept)) → withdrawn_firing kind (summaries plan q.mode es) ≡ kept.withdrawn_firing q kind_of es
  firing-summaries kind kind_of same [] = refl
  firing-summaries kind kind_of same (e ∷ es) =
      λ i. cons_option (cond (is_some (same e.0 e.1 i)) (written-summary e.0 e.1.stands i) None) (firing-summaries kind kind_of same es i)

  -- a selected record
  pub withdrawn_by_record-summaries : (w : ℤ) (d : Datum) (es : List (Place × Kept)) → withdrawn_by_record plan q w d (summaries plan q.mode es) ≡ kept.withdrawn_by_record q w d es
  withdrawn_by_record-summaries w d es =
      (λ i. entering-summaries q.shape d es i ++ withdrawn_firing (kind_by_record q w d) (entered-summaries plan q.mode lawful q.shape q.clock.lateness d es i))
      ∙ ap (λ (ws : List (Place × List Cell)). kept.withdrawn_entering q q.shape d es ++ ws) (firing-summaries (kind_by_record q w d) (kept.kind_by_record q w d) (λ p h. refl) (kept.entered q.shape q.clock.lateness d es))

  -- a watermark
  pub withdrawn_by_watermark-summaries : (old new : ℤ) (es : List (Place × Kept)) → withdrawn_by_watermark q old new (summaries plan q.mode es) ≡ kept.withdrawn_by_watermark q old new es
  withdrawn_by_watermark-summaries old new es = firing-summaries (kind_by_watermark q old new) (kept.kind_by_watermark q old new) (same_kind plan q old new es) es
