-- What is withdrawn at some places, as a record fires the panes there.
use Rattle.std.proofs.Common.{◌≡◌, ℕ, ◌+◌, true, false, true≢false, T, List, [], ◌∷◌, ◌++◌, length, Option, Some, None, is_some, refl, sym, ap, subst, ◌∙◌, length-append}
use Rattle.std.specs.Prelude.{ℤ}
use Rattle.std.specs.List.{AllByRecursion, cons_option, list_any}
use Rattle.std.specs.Ordering.{eq_by_cmp, is_gt}
use Rattle.std.specs.FinMap.Entries.{find, is_sorted}
use Rattle.wsm_record.specs.declared.event.Value.{Value}
use Rattle.wsm_windows.specs.declared.window.PaneKind.{PaneKind}
use Rattle.wsm_windows.specs.declared.place.Place.{Place}
use Rattle.wsm_windows.specs.Places.{place_cmp}
use Rattle.wsm_semantics.specs.declared.out_row.OutRow.{OutRow}
use Rattle.wsm_semantics.specs.Query.{Query}
use Rattle.wsm_semantics.specs.Firings.{kind_on_record}
use Rattle.wsm_semantics.specs.Summaries.{Plan, Pane, fired_of, fires, written_by, withdrawn_firing}
use Rattle.wsm_semantics.proofs.Each.{all-any}
use Rattle.wsm_firing.specs.ByRecord.{kind_at}
use Rattle.wsm_firing.specs.Retracting.{AreWithdrawn}
use Rattle.wsm_firing.proofs.ByKind.{told_found, told_in_turn, told_none, told_there}
use Rattle.wsm_firing.proofs.RetractWalk.{Panes, Written, withdraws, withdrawn_no_more}

module _ (plan : Plan (List Value)) (q : Query) (mark : ℤ) where
  abbrev pub withdrawn_at : List Place → Panes → Written
  withdrawn_at places es = withdrawn_firing (kind_at q mark places) es

  abbrev pub number_at : List Place → Panes → ℕ
  number_at places es = length (fires q (kind_at q mark places) es)

  module _ (p : Place) (es : Panes) (sorted : T (is_sorted place_cmp es)) where
    abbrev IsPut : List OutRow → List OutRow → Type 0
    IsPut before after = AreWithdrawn before after (withdrawn_at (p ∷ []) es) (number_at (p ∷ []) es)

    withdrawn_found : (o : Option (Pane (List Value))) → find place_cmp p es ≡ o → withdrawn_at (p ∷ []) es ≡ told_found plan q withdraws (λ r h. refl) mark p o
    withdrawn_found o is = told_there plan q withdraws (λ r h. refl) mark p es sorted ∙ ap (told_found plan q withdraws (λ r h. refl) mark p) is

    number_found : (o : Option (Pane (List Value))) → find place_cmp p es ≡ o → number_at (p ∷ []) es ≡ length (told_found plan q (fired_of q.mode) (λ r h. refl) mark p o)
    number_found o is = ap length (told_there plan q (fired_of q.mode) (λ r h. refl) mark p es sorted ∙ ap (told_found plan q (fired_of q.mode) (λ r h. refl) mark p) is)

    pub put_none : find place_cmp p es ≡ None → (rows : List OutRow) → IsPut rows rows
    put_none is rows = subst (λ (x : Written × ℕ). AreWithdrawn rows rows x.0 x.1) (λ i. (sym (withdrawn_found None is) i, sym (number_found None is) i)) (withdrawn_no_more rows)

    module _ (h : Pane (List Value)) (there : find place_cmp p es ≡ Some h) where
      by_kind : (k : Option PaneKind) → kind_on_record q mark p.end h.unshown ≡ k → (ws : Written) (n : ℕ) → cons_option (withdraws p h k) [] ≡ ws → length (cons_option (fired_of q.mode p h k) []) ≡ n →
          (before after : List OutRow) → AreWithdrawn before after ws n → IsPut before after
      by_kind k is ws n written number before after put =
          let all : withdrawn_at (p ∷ []) es ≡ ws = withdrawn_found (Some h) there ∙ ap (λ (k : Option PaneKind). cons_option (withdraws p h k) []) is ∙ written in
          let most : number_at (p ∷ []) es ≡ n = number_found (Some h) there ∙ ap (λ (k : Option PaneKind). length (cons_option (fired_of q.mode p h k) [])) is ∙ number in
          subst (λ (x : Written × ℕ). AreWithdrawn before after x.0 x.1) (λ i. (sym all i, sym most i)) put

      pub put_quiet : is_some (kind_on_record q mark p.end h.unshown) ≡ false → (rows : List OutRow) → IsPut rows rows
      put_quiet quiet rows = by (kind_on_record q mark p.end h.unshown) refl quiet where
        by : (k : Option PaneKind) → kind_on_record q mark p.end h.unshown ≡ k → is_some k ≡ false → IsPut rows rows
        by None is quiet = by_kind None is [] 0 refl refl rows rows (withdrawn_no_more rows)
        by (Some k) is quiet = absurd (true≢false quiet)

      module _ (fires : is_some (kind_on_record q mark p.end h.unshown) ≡ true) where
        pub one_at : number_at (p ∷ []) es ≡ 1
        one_at = by (kind_on_record q mark p.end h.unshown) refl fires where
          by : (k : Option PaneKind) → kind_on_record q mark p.end h.unshown ≡ k → is_some k ≡ true → number_at (p ∷ []) es ≡ 1
          by None is fires = absurd (true≢false (sym fires))
          by (Some k) is fires = number_found (Some h) there ∙ ap (λ (k : Option PaneKind). length (cons_option (fired_of q.mode p h k) [])) is

        pub put_one : (before after : List OutRow) → AreWithdrawn before after (cons_option (written_by p h.stands) []) 1 → IsPut before after
        put_one before after put = by (kind_on_record q mark p.end h.unshown) refl fires where
          by : (k : Option PaneKind) → kind_on_record q mark p.end h.unshown ≡ k → is_some k ≡ true → IsPut before after
          by None is fires = absurd (true≢false (sym fires))
          by (Some k) is fires = by_kind (Some k) is (cons_option (written_by p h.stands) []) 1 refl refl before after put

    -- the pane at a place comes before those at places behind it
    module _ (ps : List Place) (later : (r : Place) → is_gt (place_cmp r p) ≡ false → list_any (eq_by_cmp place_cmp r) ps ≡ false) where
      pub withdrawn_in_turn : withdrawn_at (p ∷ ps) es ≡ withdrawn_at (p ∷ []) es ++ withdrawn_at ps es
      withdrawn_in_turn = told_in_turn plan q withdraws (λ r h. refl) mark p ps later es sorted

      pub number_in_turn : number_at (p ∷ ps) es ≡ number_at (p ∷ []) es + number_at ps es
      number_in_turn =
          ap length (told_in_turn plan q (fired_of q.mode) (λ r h. refl) mark p ps later es sorted)
          ∙ length-append (fires q (kind_at q mark (p ∷ [])) es) (fires q (kind_at q mark ps) es)

  -- at no place
  pub withdrawn_nowhere : (es : Panes) → withdrawn_at [] es ≡ []
  withdrawn_nowhere es = told_none plan q withdraws (λ r h. refl) (kind_at q mark []) es (all_none es) where
    all_none : (es : Panes) → AllByRecursion (λ e. kind_at q mark [] e.0 e.1 ≡ None) es
    all_none es = all-any (λ (e : Place × Pane (List Value)). kind_at q mark [] e.0 e.1 ≡ None) (λ e. refl) es
