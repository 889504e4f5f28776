use Rattle.std.proofs.Common.{◌≡◌, ◌<◌, ◌≤◌, ◌∙◌, Some, ap, get_or, length, rules, sym, arith}
use Rattle.std.proofs.lemmas.Option.{slice_get-get_or, slice_get_within}
use Rattle.std.specs.Prelude.{slice_get}
use Rattle.wsm_windows.specs.Places.{place_cmp}
use Rattle.wsm_list.specs.Search.{before}
use Rattle.wsm_list.specs.Stored.{shown}
use Rattle.wsm_list.proofs.Earlier.{stands_before}
use Rattle.wsm_list.proofs.search.number_of_slot.Goals as goal

pub returns-then-numbers-last : goal.returns-then-numbers-last
returns-then-numbers-last c =
    let numbers = c.in_ok-numbers.numbers.now in
    let row = c.args.row.now.row in
    let same : numbers ≡ row = c.in_ok-numbers.ensures in
    let number = c.requires.there.number in
    let here : slice_get numbers number ≡ Some c.args.slot = ap (λ l. slice_get l number) same ∙ c.requires.there.here in
    let first : c.count_ending_before-first.result ≤ number = omega (arith, c.count_ending_before-first.ensures.counts c.args.place (search rules), c.requires.there.is.stops, ap (λ l. before place_cmp c.args.place (shown c.args.slots.now.slots l)) same) in
    let last : c.past_another-last.result ≤ number = c.past_another-last.ensures number here (c.past_another-third.ensures number here (c.past_another-second.ensures number here first)) in
    let within : c.past_another-last.result < length numbers = omega (arith, last, slice_get_within numbers number c.args.slot here) in
    let is : get_or numbers c.past_another-last.result 0 ≡ c.args.slot = c.if-numbers-last.true in
    stands_before _ _ c.requires.stored c.args.place c.args.slot c.past_another-last.result c.requires.there (ap (λ l. slice_get l c.past_another-last.result) (sym same) ∙ slice_get-get_or numbers c.past_another-last.result 0 within ∙ ap Some is)
