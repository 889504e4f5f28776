use Rattle.std.proofs.Common.{◌≡◌, true, ap, sym, ◌∙◌}
use Rattle.wsm_lines.specs.Members.{passes_fields, passes_place}
use Rattle.wsm_lines.specs.declared.source.Place.{Place}
use Rattle.wsm_lines.proofs.FilterLemmas.{wider_fields, wider_maybe, wider_place}
use Rattle.wsm_lines.proofs.name_filter.NameFilter.of.Goals as goal

pub returns : goal.returns
returns c =
    let s = c.args.source.now in
    let fielded = c.mark_fields.new.buckets in
    let identified = c.mark_maybe.ensures in
    let clocked = c.mark_maybe-2.ensures in
    let wider : (p : Place) → passes_place c.mark_place-2.new.buckets p ≡ true → passes_place c.mark_maybe-2.new.buckets p ≡ true = λ p h. wider_place _ _ clocked.widens p (wider_place _ _ identified.widens p (wider_place _ _ c.mark_fields.ensures.widens p h)) in
    let fields : passes_fields fielded s.fields ≡ true = ap (passes_fields fielded) (sym c.items.ensures) ∙ c.mark_fields.ensures.marked in
    record {
      key = wider s.key.at (wider_place _ _ c.mark_place-2.ensures.widens s.key.at c.mark_place.ensures.marked);
      time = wider s.time.at c.mark_place-2.ensures.marked;
      fields = wider_fields _ _ clocked.widens s.fields (wider_fields _ _ identified.widens s.fields fields);
      identifier = wider_maybe _ _ clocked.widens s.identifier identified.marked;
      clock = clocked.marked;
    }
