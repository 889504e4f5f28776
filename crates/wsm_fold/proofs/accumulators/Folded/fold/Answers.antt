use Rattle.std.proofs.Common.{◌≡◌, arith, length, drop, [], ◌∷◌, Some, refl, sym, ap, ◌∙◌}
use Rattle.wsm_fold.proofs.Bags.{fold_by-append}
use Rattle.wsm_fold.proofs.Rows.{row_length, row_has_places, row_sums, row_joined, joins_assoc}
use Rattle.wsm_fold.proofs.accumulators.Folded.fold.Goals as goal

pub join_all-requires-clause-kinds : goal.join_all-requires-clause-kinds
join_all-requires-clause-kinds c =
    (row_has_places _ c.self.inside.len _ _ _ (record { held_is = c.self.view_is; room = omega arith; held_types = c.requires.held; types = c.requires.types })).kinds

pub join_all-requires-clause-places : goal.join_all-requires-clause-places
join_all-requires-clause-places c =
    (row_has_places _ c.self.inside.len _ _ _ (record { held_is = c.self.view_is; room = omega arith; held_types = c.requires.held; types = c.requires.types })).places

pub join_all-requires-clause-sums : goal.join_all-requires-clause-sums
join_all-requires-clause-sums c =
    row_sums _ c.self.inside.len _ _ _ (record { held_is = c.self.view_is; room = omega arith; held_types = c.requires.held; types = c.requires.types }) c.requires.sums

pub invariant_of-self : goal.invariant_of-self
invariant_of-self c =
    let same : length c.args.values.now ≡ c.self.inside.len =
    row_length c.args.kinds.now c.self.inside.len c.self.inside.values c.args.self.now c.args.values.now (record { held_is = c.self.view_is; room = omega arith; held_types = c.requires.held; types = c.requires.types }) in
    (c.self.invariant.0, omega arith, ap (λ n. drop n c.join_all.new.places) (sym same) ∙ c.join_all.ensures.rest ∙ ap (λ n. drop n c.self.inside.values) same ∙ c.self.invariant.2)

pub returns-clause-joined : goal.returns-clause-joined
returns-clause-joined c =
    row_joined _ c.self.inside.len _ _ _ (record { held_is = c.self.view_is; room = omega arith; held_types = c.requires.held; types = c.requires.types }) _ c.join_all.ensures.joined

pub returns-clause-bag : goal.returns-clause-bag
returns-clause-bag c rows e =
    let joined = row_joined _ c.self.inside.len _ _ _ (record { held_is = c.self.view_is; room = omega arith; held_types = c.requires.held; types = c.requires.types }) _ c.join_all.ensures.joined in
    fold_by-append _ (joins_assoc c.args.kinds.now) c.args.self.now c.args.values.now rows (c.args.values.now ∷ []) e refl ∙ ap Some (sym joined)
