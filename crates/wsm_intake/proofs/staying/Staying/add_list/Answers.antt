use Rattle.std.proofs.Common.{rules, ◌≡◌, ◌++◌, ◌<◌, ◌^◌, [], ℕ, List, sym, subst}
use Rattle.std.proofs.lemmas.Result.{on_ok_weaker}
use Rattle.wsm_machine.specs.Meaning.{query_of}
use Rattle.wsm_keep.specs.Holds.{Written, read, rows_with}
use Rattle.wsm_keep.specs.Keeper.{AreAdded}
use Rattle.wsm_keep.specs.Staying.{staying}
use Rattle.wsm_keep.proofs.Cuts.{always_ok}
use Rattle.wsm_keep.proofs.OfEvents.{needed_stay}
use Rattle.wsm_cut.specs.declared.cutter.Cutter.{Cutter}
use Rattle.wsm_saved.specs.Events.{event_text}
use Rattle.wsm_saved.specs.Numbers.{number_text}
use Rattle.wsm_semantics.specs.Needed.{needed}
use Rattle.wsm_intake.specs.Staying.{Cuts}
use Rattle.wsm_log_text.proofs.Behind.{grown_on}
use Rattle.wsm_log_text.proofs.NeededEvents.{is_listed}
use Rattle.wsm_intake.proofs.staying.Staying.add_list.Goals as goal

pub returns-clause-cuts : goal.returns-clause-cuts
returns-clause-cuts c = λ p past cuts.
    let has : Cuts p c.self.inside.cutter past = subst (λ (k : Cutter). Cuts p k past) (sym c.self.view_is) cuts in
    always_ok c.extend_from_slice.result (record { fits = c.in_ok-count.ensures.fits p (rows_with event_text past) has.fits; each = cuts.each })

pub returns-clause-listed : goal.returns-clause-listed
returns-clause-listed c = λ p past cuts.
    let q = query_of p in
    let has : Cuts p c.self.inside.cutter past = subst (λ (k : Cutter). Cuts p k past) (sym c.self.view_is) cuts in
    let old : List ℕ = c.args.out.now.items in
    let count : ℕ = c.in_ok-count.count in
    let more : List ℕ = c.add_staying.new.texts.items in
    let few : count < 2 ^ 64 = search rules in
    let added : AreAdded [] more (rows_with event_text (needed q past)) count =
    subst (λ (rows : List Written). AreAdded [] more rows count) (needed_stay q event_text past)
    (subst (λ (from : List ℕ). AreAdded from more (staying read q (rows_with event_text past)) count) c.new-texts.ensures.items (c.in_ok-count.ensures.added p (rows_with event_text past) has.fits)) in
    on_ok_weaker c.extend_from_slice.result (λ (is : c.extend_from_slice.new.self.items ≡ c.save_number.new.out.items ++ more).
    is_listed q past cuts.each old c.save_number.new.out.items c.extend_from_slice.new.self.items more count added few c.in_ok-save_number.ensures is) (search rules)

pub returns-clause-grows : goal.returns-clause-grows
returns-clause-grows c =
    let old : List ℕ = c.args.out.now.items in
    let mid : List ℕ = c.save_number.new.out.items in
    let more : List ℕ = c.add_staying.new.texts.items in
    on_ok_weaker c.extend_from_slice.result (λ (is : c.extend_from_slice.new.self.items ≡ mid ++ more). grown_on old mid c.extend_from_slice.new.self.items (number_text c.in_ok-count.count) more c.in_ok-save_number.ensures is) (search rules)
