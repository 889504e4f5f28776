use Rattle.std.proofs.Common.{rules, ◌≡◌, ℤ, ap, sym, subst, ◌∙◌, SFits, w64, to_z-of_z}
use Rattle.std.specs.FinMap as map
use Rattle.wsm_windows.specs.declared.window.Shape.TheVariants.{Fixed, Sliding, Session}
use Rattle.wsm_panes.specs.OfKeys.{AreOfKeys}
use Rattle.wsm_list.proofs.Tables.{entries_none}
use Rattle.wsm_panes.proofs.held.open_tables.Goals as goal

fixed_apart : (size gap : ℤ) → ¬ (Fixed size ≡ Session gap)
fixed_apart size gap is = cc

sliding_apart : (size period gap : ℤ) → ¬ (Sliding size period ≡ Session gap)
sliding_apart size period gap is = cc

pub returns-in_ok-open-in-Fixed-clause-tables : goal.returns-in_ok-open-in-Fixed-clause-tables
returns-in_ok-open-in-Fixed-clause-tables c =
    let size : SFits w64 c.in-Fixed.size = search rules in
    rw c.in-Fixed.is (record {
      grid = fixed_apart c.in-Fixed.size;
      ring_is = λ some. ap (λ t. t.ring) c.in_ok-open-in-Fixed.ensures ∙ (simp to_z-of_z at c.ring_of-ring.ensures.all some);
      none = λ zero. ap (λ t. map.entries t.panes) c.in_ok-open-in-Fixed.ensures ∙ entries_none;
    })

pub returns-in_ok-open-in-Sliding-clause-tables : goal.returns-in_ok-open-in-Sliding-clause-tables
returns-in_ok-open-in-Sliding-clause-tables c =
    let size : SFits w64 c.in-Sliding.size = search rules in
    let period : SFits w64 c.in-Sliding.period = search rules in
    rw c.in-Sliding.is (record {
      grid = sliding_apart c.in-Sliding.size c.in-Sliding.period;
      ring_is = λ some. ap (λ t. t.ring) c.in_ok-open-in-Sliding.ensures ∙ (simp to_z-of_z at c.ring_of-ring-in-Sliding.ensures.all some);
      none = λ zero. ap (λ t. map.entries t.panes) c.in_ok-open-in-Sliding.ensures ∙ entries_none;
    })

pub returns-in_ok-no_sessions-in-Session-clause-tables : goal.returns-in_ok-no_sessions-in-Session-clause-tables
returns-in_ok-no_sessions-in-Session-clause-tables c =
    let gap : SFits w64 c.in-Session.gap = search rules in
    record {
      gap = c.in-Session.gap;
      shape_is = c.in-Session.is;
      room = ap (λ t. t.room) c.in_ok-open-in-Session.ensures;
      of_keys =
          subst (λ es. AreOfKeys c.in-Session.gap c.args.keys c.args.live es c.in_ok-no_sessions-in-Session.field-0.items.items) (sym (ap (λ t. map.entries t.panes) c.in_ok-open-in-Session.ensures ∙ entries_none))
          (simp to_z-of_z at c.in_ok-no_sessions-in-Session.ensures);
    }
