use Rattle.std.proofs.Common.{rules, ◌≡◌, ◌∙◌, ◌++◌, ℕ, Bool, List, [], true, false, nat_lt, drop, length, take, refl, sym, ap, subst, arith}
use Rattle.std.specs.Prelude.{◌&&◌, unsigned_abs, IfOk, IsTrue}
use Rattle.std.proofs.lemmas.Result.{IfOk-weaker, on_ok_weaker}
use Rattle.std.proofs.Transfers.{drop-appended}
use Rattle.wsm_record.specs.Event.{Event}
use Rattle.wsm_turns.specs.Clocks.{named_in}
use Rattle.wsm_head.specs.StandsFor.{program_with, taken}
use Rattle.wsm_part_programs.specs.Names.{of_names}
use Rattle.wsm_saved.specs.Events.{event_text}
use Rattle.wsm_program.specs.Program.{is_program}
use Rattle.wsm_saved.specs.Lists.{BytesFit, ListFits, bytes_text, list_text}
use Rattle.wsm_saved.specs.Numbers.{number_text}
use Rattle.wsm_saved_turns.specs.Turns.{DoublesFit, clocks_text, doubles_text, names_text}
use Rattle.wsm_keyed_told.specs.declared.told.KeyedTold.{KeyedTold}
use Rattle.wsm_keyed_told.specs.Tells.{Serves}
use Rattle.wsm_keyed_told.proofs.ByNames.{if_ok_all, on_ok_all}
use Rattle.wsm_log_text.specs.LogText as texts
use Rattle.wsm_log_text.specs.Needed.{left_behind, needed_in_order, IsListed}
use Rattle.wsm_log_text.proofs.Behind.{behind, grown_through}
use Rattle.wsm_log_text.proofs.SavedFacts.{known_itself, left_alike, named_of, names_in, said_each, some_and_some}
use Rattle.wsm_keyed_intake.specs.KeyedLog.{declared_by, kept_by, names_of}
use Rattle.wsm_keyed_intake.specs.Saved.{keeps_events, query_with}
use Rattle.wsm_keyed_intake.proofs.GoingOn.{named_by, served_on}
use Rattle.wsm_keyed_intake.proofs.SavedFacts.{all_text, is_saved}
use Rattle.wsm_keyed_intake.proofs.intake.KeyedIntake.save.Goals as goal
use Rattle.wsm_keyed_intake.proofs.intake.KeyedIntake.save.Goals.{then-self-eq0-via-then-self-eq0, then-self-eq0-via-else-self-eq0+then-left-eq0}

-- where no line came, or no RECORDS are left, it can't be said what lines come to
none_came : (lines came some : ℕ) (k : Bool) → came ≡ lines → came ≡ 0 → false ≡ ((nat_lt 0 lines && nat_lt 0 some) && k)
none_came lines came some k is none = ap (λ (n : ℕ). (nat_lt 0 n && nat_lt 0 some) && k) (sym none ∙ is)

and_none : (b k : Bool) → false ≡ ((b && false) && k)
and_none true k = refl
and_none false k = refl

none_left : (lines left some : ℕ) (k : Bool) → left ≡ some → left ≡ 0 → false ≡ ((nat_lt 0 lines && nat_lt 0 some) && k)
none_left lines left some k is none = and_none (nat_lt 0 lines) k ∙ ap (λ (n : ℕ). (nat_lt 0 lines && nat_lt 0 n) && k) (sym none ∙ is)

pub returns-clause-goes_on : goal.returns-clause-goes_on
returns-clause-goes_on c = λ g before on.
    let old = c.args.self.now.told in
    let new = c.save_needed.new.self in
    let lesser = program_with on.records g.program in
    on_ok_weaker c.save_needed.result (λ h. served_on g c.args.self.now new before on (ap (λ (t : KeyedTold). t.names) c.save_needed.ensures.others) (λ past serves. h (past, serves)))
    (on_ok_all c.save_needed.result (λ (n : (past : List Event) × Serves lesser old past). Serves lesser new n.0) (λ n. c.save_needed.ensures.serves lesser n.0 n.1))

pub returns-clause-saved : goal.returns-clause-saved
returns-clause-saved c = λ g before on.
    let old = c.args.self.now in
    let clocks = g.clocks in
    let lesser = program_with on.records g.program in
    let left = c.records_left-left.result in
    let start : List ℕ = c.args.text.now.items in
    let t1 : List ℕ = c.save_number.new.out.items in
    let t2 : List ℕ = c.save_bytes.new.out.items in
    let t3 : List ℕ = c.save_number-2.new.out.items in
    let t4 : List ℕ = c.save_clocks.new.out.items in
    let t5 : List ℕ = c.save_names.new.out.items in
    let t6 : List ℕ = c.save_doubles.new.out.items in
    let t7 : List ℕ = c.save_key_names.new.out.items in
    let last : List ℕ = c.save_needed.new.text.items in
    let e1 : t1 ≡ start ++ number_text old.taken = c.in_ok-save_number.ensures in
    let e2 : t2 ≡ t1 ++ bytes_text old.first.items = c.in_ok-save_bytes.ensures.text ∙ ap (λ (b : List ℕ). t1 ++ bytes_text b) c.deref.ensures.value in
    let e3 : t3 ≡ t2 ++ number_text left = c.in_ok-save_number-2.ensures in
    let e4 : t4 ≡ t3 ++ clocks_text old.waiting = c.in_ok-save_clocks.ensures.text in
    let e6 : t6 ≡ t5 ++ doubles_text old.identifiers.doubles.entries = c.in_ok-save_doubles.ensures.text ∙ ap (λ k. t5 ++ doubles_text k.entries) c.doubles.ensures in
    let e7 : t7 ≡ t6 ++ list_text bytes_text old.told.names = c.in_ok-save_key_names.ensures.text in
    let each : (later : List (List ℕ)) → IfOk c.save_needed.result (λ yes. yes ≡ true → IsListed (query_with g on.records (names_of g (later ++ before))) (on.by later).other.fed t7 last) = λ later.
    let by = on.by later in
    IfOk-weaker c.save_needed.result _ _ (λ yes listed is. listed is (names_of g (later ++ before)) (named_by lesser old.told by.other.fed by.holds.told (names_of g (later ++ before)) by.holds.grows))
    (c.save_needed.ensures.saved lesser by.other.fed by.holds.told) in
    IfOk-weaker c.save_needed.result _ _ (λ yes listed is.
    let whole : (later : List (List ℕ)) → last ≡ start ++ all_text g old before on later left = λ later.
    let by = on.by later in
    let all = names_of g (later ++ before) in
    let voices = texts.names_of g.source clocks (declared_by g all) before in
    let list = list_text event_text (needed_in_order (query_with g on.records all) by.other.fed) in
    let by_names = list_text bytes_text old.told.names ++ list in
    let by_doubles = doubles_text old.identifiers.doubles.entries ++ by_names in
    let by_voices = names_text (named_in clocks) voices ++ by_doubles in
    let by_clocks = clocks_text old.waiting ++ by_voices in
    let by_left = number_text left ++ by_clocks in
    let by_first = bytes_text old.first.items ++ by_left in
    let e5 : t5 ≡ t4 ++ names_text (named_in clocks) voices = c.in_ok-save_names.ensures.text (named_in clocks) voices by.voices in
    behind start t1 last (number_text old.taken) by_first e1
    (behind t1 t2 last (bytes_text old.first.items) by_left e2
    (behind t2 t3 last (number_text left) by_clocks e3
    (behind t3 t4 last (clocks_text old.waiting) by_voices e4
    (behind t4 t5 last (names_text (named_in clocks) voices) by_doubles e5
    (behind t5 t6 last (doubles_text old.identifiers.doubles.entries) by_names e6
    (behind t6 t7 last (list_text bytes_text old.told.names) list e7 (listed later is).text)))))) in
    let text : List ℕ = drop (length start) last in
    let there : (later : List (List ℕ)) → text ≡ all_text g old before on later left = λ later. drop-appended start last (all_text g old before on later left) (whole later) in (
      text,
      whole [] ∙ ap (λ (t : List ℕ). start ++ t) (sym (there [])),
      record {
        records = on.records;
        lesser = subst (λ m. IsTrue (is_program m)) (on.by []).holds.told.parts.program c.records_left-left.ensures.lawful;
        fewer = on.fewer;
        names = subst (ListFits BytesFit) on.reads.known c.in_ok-save_key_names.ensures.fits;
        by = λ later.
            let by = on.by later in
            let all = names_of g (later ++ before) in
            let voices = texts.names_of g.source clocks (declared_by g all) before in
            let named = named_by lesser old.told by.other.fed by.holds.told all by.holds.grows in
            is_saved g old before on later left text (c.records_left-left.ensures.left lesser by.other.fed by.holds.told all named)
            (search rules) (search rules) (omega arith) (omega arith)
            (subst BytesFit c.deref.ensures.value c.in_ok-save_bytes.ensures.fits) c.in_ok-save_clocks.ensures.fits
            (c.in_ok-save_names.ensures.fits (named_in clocks) voices by.voices)
            (subst (λ k. DoublesFit k.entries) c.doubles.ensures c.in_ok-save_doubles.ensures.fits) (listed later is).fits (there later);
      },
    )) (if_ok_all c.save_needed.result (λ yes later. yes ≡ true → IsListed (query_with g on.records (names_of g (later ++ before))) (on.by later).other.fed t7 last) each)

pub returns-then-self-eq0-clause-when : goal.returns-then-self-eq0-clause-when
returns-then-self-eq0-clause-when c = λ g before on.
    let old = c.args.self.now in
    let lesser = program_with on.records g.program in
    let by = on.by [] in
    let all = names_of g before in
    let past = (kept_by g all before).fed in
    let named = named_by lesser old.told by.other.fed by.holds.told all by.holds.grows in
    let lines = by.taken ∙ said_each g.source g.clocks (declared_by g all) before in
    let left = c.records_left-left.ensures.left lesser by.other.fed by.holds.told all named
    ∙ left_alike (unsigned_abs on.records) (unsigned_abs g.program.header.clock.records) (taken (of_names g.program all) past) (taken (query_with g on.records all) by.other.fed) by.stands.stands.left in
    let some = left_behind (of_names g.program all) past in
    elim c.then-self-eq0.branch [
      | then-self-eq0-via-then-self-eq0 w ↦ none_came (length before) old.taken some (keeps_events old) lines (omega (arith, w.if-self-eq0.true))
      | then-self-eq0-via-else-self-eq0+then-left-eq0 w ↦ none_left (length before) c.records_left-left.result some (keeps_events old) left (omega (arith, w.if-left-eq0.true))
    ]

pub returns-clause-when : goal.returns-clause-when
returns-clause-when c = λ g before on.
    let old = c.args.self.now in
    let lesser = program_with on.records g.program in
    let by = on.by [] in
    let all = names_of g before in
    let past = (kept_by g all before).fed in
    let named = named_by lesser old.told by.other.fed by.holds.told all by.holds.grows in
    let lines = by.taken ∙ said_each g.source g.clocks (declared_by g all) before in
    let left = c.records_left-left.ensures.left lesser by.other.fed by.holds.told all named
    ∙ left_alike (unsigned_abs on.records) (unsigned_abs g.program.header.clock.records) (taken (of_names g.program all) past) (taken (query_with g on.records all) by.other.fed) by.stands.stands.left in
    let can = some_and_some (length before) old.taken c.records_left-left.result (left_behind (of_names g.program all) past) lines left (omega arith) (omega arith) in
    IfOk-weaker c.save_needed.result _ _ (λ is_saved kept. kept ∙ sym (ap (λ (b : Bool). b && keeps_events old) can)) c.save_needed.ensures.is_saved

pub returns-clause-grows : goal.returns-clause-grows
returns-clause-grows c =
    let old = c.args.self.now in
    let named = named_of old.voices in
    let voices = names_in old.voices in
    let start : List ℕ = c.args.text.now.items in
    let t1 : List ℕ = c.save_number.new.out.items in
    let t2 : List ℕ = c.save_bytes.new.out.items in
    let t3 : List ℕ = c.save_number-2.new.out.items in
    let t4 : List ℕ = c.save_clocks.new.out.items in
    let t5 : List ℕ = c.save_names.new.out.items in
    let t6 : List ℕ = c.save_doubles.new.out.items in
    let t7 : List ℕ = c.save_key_names.new.out.items in
    let last : List ℕ = c.save_needed.new.text.items in
    on_ok_weaker c.save_needed.result (λ (grows : take (length t7) last ≡ t7).
    grown_through start t1 last (number_text old.taken) c.in_ok-save_number.ensures
    (grown_through t1 t2 last (bytes_text c.deref.result.now) c.in_ok-save_bytes.ensures.text
    (grown_through t2 t3 last (number_text c.records_left-left.result) c.in_ok-save_number-2.ensures
    (grown_through t3 t4 last (clocks_text old.waiting) c.in_ok-save_clocks.ensures.text
    (grown_through t4 t5 last (names_text named voices) (c.in_ok-save_names.ensures.text named voices (known_itself old.voices))
    (grown_through t5 t6 last (doubles_text c.doubles.result.now.entries) c.in_ok-save_doubles.ensures.text
    (grown_through t6 t7 last (list_text bytes_text old.told.names) c.in_ok-save_key_names.ensures.text grows))))))) c.save_needed.ensures.grows
