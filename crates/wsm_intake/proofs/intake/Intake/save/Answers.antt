use Rattle.std.proofs.Common.{rules, ◌≡◌, ◌∙◌, ◌++◌, ℕ, Bool, List, length, take, refl, sym, ap, subst, arith}
use Rattle.std.specs.Prelude.{◌&&◌, unsigned_abs}
use Rattle.std.proofs.lemmas.Result.{IfOk-weaker, on_ok_weaker}
use Rattle.wsm_machine.specs.Meaning.{query_of}
use Rattle.wsm_turns.specs.Clocks.{named_in}
use Rattle.wsm_head.specs.StandsFor.{program_with, taken}
use Rattle.wsm_saved.specs.Events.{event_text}
use Rattle.wsm_saved.specs.Lists.{BytesFit, bytes_text, list_text}
use Rattle.wsm_saved.specs.Numbers.{number_text}
use Rattle.wsm_saved_turns.specs.Turns.{DoublesFit, clocks_text, doubles_text, names_text}
use Rattle.wsm_log_text.specs.LogText.{names_of}
use Rattle.wsm_intake.specs.GoesOn.{kept_of}
use Rattle.wsm_log_text.specs.Needed.{left_behind, needed_in_order}
use Rattle.wsm_intake.specs.Saved.{keeps_events}
use Rattle.wsm_log_text.proofs.Behind.{behind, grown_through}
use Rattle.wsm_intake.proofs.SavedFacts.{is_saved, served_on}
use Rattle.wsm_log_text.proofs.SavedFacts.{known_itself, left_alike, named_of, names_in, said_each, some_and_some}
use Rattle.wsm_intake.proofs.intake.Intake.save.Goals as goal

pub returns-clause-goes_on : goal.returns-clause-goes_on
returns-clause-goes_on c = λ s clocks p before on.
    on_ok_weaker c.save_needed.result (λ serves. served_on s clocks p c.args.self.now c.save_needed.new.self before on (λ _. serves))
    (c.save_needed.ensures.serves (program_with on.records p) on.other.fed on.fits.holds.told)

pub returns-clause-saved : goal.returns-clause-saved
returns-clause-saved c = λ s clocks p before on.
    let old = c.args.self.now in
    let mid = program_with on.records p in
    let fed = on.other.fed in
    let names = names_of s clocks p.header.schema before in
    let knows = on.fits.names in
    let list = list_text event_text (needed_in_order (query_of mid) fed) in
    let by_doubles = doubles_text old.identifiers.doubles.entries ++ list in
    let by_names = names_text (named_in clocks) names ++ by_doubles in
    let by_clocks = clocks_text old.waiting ++ by_names in
    let by_left = number_text c.records_left-left.result ++ by_clocks in
    let by_first = bytes_text old.first.items ++ by_left in
    let all = number_text old.taken ++ by_first in
    let start : List ℕ = c.args.text.now.items in
    let t1 : List ℕ = c.save_number.new.out.items in
    let t2 : List ℕ = c.save_bytes.new.out.items in
    let t3 : List ℕ = c.save_number-2.new.out.items in
    let t4 : List ℕ = c.save_clocks.new.out.items in
    let t5 : List ℕ = c.save_names.new.out.items in
    let t6 : List ℕ = c.save_doubles.new.out.items in
    let last : List ℕ = c.save_needed.new.text.items in
    let e1 : t1 ≡ start ++ number_text old.taken = c.in_ok-save_number.ensures in
    let e2 : t2 ≡ t1 ++ bytes_text old.first.items = c.in_ok-save_bytes.ensures.text ∙ ap (λ (b : List ℕ). t1 ++ bytes_text b) c.deref.ensures.value in
    let e3 : t3 ≡ t2 ++ number_text c.records_left-left.result = c.in_ok-save_number-2.ensures in
    let e4 : t4 ≡ t3 ++ clocks_text old.waiting = c.in_ok-save_clocks.ensures.text in
    let e5 : t5 ≡ t4 ++ names_text (named_in clocks) names = c.in_ok-save_names.ensures.text (named_in clocks) names knows in
    let e6 : t6 ≡ t5 ++ doubles_text old.identifiers.doubles.entries = c.in_ok-save_doubles.ensures.text ∙ ap (λ k. t5 ++ doubles_text k.entries) c.doubles.ensures in
    IfOk-weaker c.save_needed.result _ _ (λ yes listed is.
    let now = listed is in (
      all,
      behind start t1 last (number_text old.taken) by_first e1
          (behind t1 t2 last (bytes_text old.first.items) by_left e2
          (behind t2 t3 last (number_text c.records_left-left.result) by_clocks e3
          (behind t3 t4 last (clocks_text old.waiting) by_names e4
          (behind t4 t5 last (names_text (named_in clocks) names) by_doubles e5
          (behind t5 t6 last (doubles_text old.identifiers.doubles.entries) list e6 now.text))))),
      is_saved s clocks p old before on c.records_left-left.result all c.records_left-left.ensures.lawful (c.records_left-left.ensures.left mid fed on.fits.holds.told)
          (search rules) (search rules) (omega arith) (omega arith)
          (subst BytesFit c.deref.ensures.value c.in_ok-save_bytes.ensures.fits) c.in_ok-save_clocks.ensures.fits
          (c.in_ok-save_names.ensures.fits (named_in clocks) names knows)
          (subst (λ k. DoublesFit k.entries) c.doubles.ensures c.in_ok-save_doubles.ensures.fits) now.fits refl,
    )) (c.save_needed.ensures.saved mid fed on.fits.holds.told)

pub returns-clause-when : goal.returns-clause-when
returns-clause-when c = λ s clocks p before on.
    let old = c.args.self.now in
    let mid = program_with on.records p in
    let past = (kept_of s clocks p before).fed in
    let lines = on.fits.taken ∙ said_each s clocks p.header.schema before in
    let left = c.records_left-left.ensures.left mid on.other.fed on.fits.holds.told
    ∙ left_alike (unsigned_abs on.records) (unsigned_abs p.header.clock.records) (taken (query_of p) past) (taken (query_of mid) on.other.fed) on.stands.stands.left in
    let can = some_and_some (length before) old.taken c.records_left-left.result (left_behind (query_of p) past) lines left (omega arith) (omega arith) in
    IfOk-weaker c.save_needed.result _ _ (λ is_saved kept. kept ∙ sym (ap (λ (b : Bool). b && keeps_events old) can)) c.save_needed.ensures.is_saved

pub returns-clause-grows : goal.returns-clause-grows
returns-clause-grows c =
    let old = c.args.self.now in
    let named = named_of old.names in
    let names = names_in old.names in
    let start : List ℕ = c.args.text.now.items in
    let t1 : List ℕ = c.save_number.new.out.items in
    let t2 : List ℕ = c.save_bytes.new.out.items in
    let t3 : List ℕ = c.save_number-2.new.out.items in
    let t4 : List ℕ = c.save_clocks.new.out.items in
    let t5 : List ℕ = c.save_names.new.out.items in
    let t6 : List ℕ = c.save_doubles.new.out.items in
    let last : List ℕ = c.save_needed.new.text.items in
    on_ok_weaker c.save_needed.result (λ (grows : take (length t6) last ≡ t6).
    grown_through start t1 last (number_text old.taken) c.in_ok-save_number.ensures
    (grown_through t1 t2 last (bytes_text c.deref.result.now) c.in_ok-save_bytes.ensures.text
    (grown_through t2 t3 last (number_text c.records_left-left.result) c.in_ok-save_number-2.ensures
    (grown_through t3 t4 last (clocks_text old.waiting) c.in_ok-save_clocks.ensures.text
    (grown_through t4 t5 last (names_text named names) (c.in_ok-save_names.ensures.text named names (known_itself old.names))
    (grown_through t5 t6 last (doubles_text c.doubles.result.now.entries) c.in_ok-save_doubles.ensures.text grows)))))) c.save_needed.ensures.grows
