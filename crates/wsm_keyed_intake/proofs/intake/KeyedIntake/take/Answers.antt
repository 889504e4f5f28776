use Rattle.std.proofs.Common.{rules, ◌≡◌, ◌∙◌, ◌++◌, ◌+◌, ◌<◌, ◌∷◌, ℕ, List, [], Ok, Err, Option, Result, length, ◌≤◌, suc, refl, ap, sym, subst, append_assoc, arith}
use Rattle.std.proofs.lemmas.Result.{on_ok_weaker}
use Rattle.std.specs.Prelude.{IfSome, OnOk}
use Rattle.wsm_record.specs.Event.{Event}
use Rattle.wsm_admission.specs.Admission.{counter}
use Rattle.wsm_lines.specs.declared.fault.LineFault.{LineFault}
use Rattle.wsm_lines.specs.Reader.{Follows, clock_read, event_read}
use Rattle.wsm_lines.specs.Said.{clock_of, identifier_of, said_of}
use Rattle.wsm_turns.specs.Clocks.{named_in}
use Rattle.wsm_turns.specs.Heard.{left_count, silent_count}
use Rattle.wsm_turns.specs.Named.{Knows}
use Rattle.wsm_turns.specs.Turns.{spoken_by, stamp_of}
use Rattle.wsm_turns.specs.Voices.{Voiced}
use Rattle.wsm_turns.proofs.Stamps.{few_by, few_stamps}
use Rattle.wsm_key_names.specs.Reading.{by_names}
use Rattle.wsm_named_lines.specs.Names.{names_after_line}
use Rattle.wsm_named_lines.specs.Reading.{Reading}
use Rattle.wsm_named_lines.proofs.Taught.{stays_said}
use Rattle.wsm_program.specs.Program.{Program}
use Rattle.wsm_keep.specs.declared.keeper.Keeper.{Keeper}
use Rattle.wsm_head.specs.StandsFor.{program_with}
use Rattle.wsm_keyed_told.specs.Staying.{CutsAll}
use Rattle.wsm_keyed_told.specs.Tells.{Serves}
use Rattle.wsm_keyed_told.proofs.More.{fits_more}
use Rattle.wsm_part_engines.specs.Fits as parts
use Rattle.wsm_log_text.specs.FirstLine.{first_of}
use Rattle.wsm_log_text.specs.LogText as texts
use Rattle.wsm_log_text.specs.LogText.{Said, fault_count, fault_text, left_at, turn_at, voiced_in, voiced_line}
use Rattle.wsm_log_text.proofs.Counts.{no_more, one_more}
use Rattle.wsm_log_text.proofs.FirstLines.{fault_alone, first_next}
use Rattle.wsm_keyed_intake.specs.declared.intake.KeyedIntake.{KeyedIntake}
use Rattle.wsm_keyed_intake.specs.KeyedLog.{KeyedLog, declared_by, kept_by, names_of, said_by, said_next, setting_by, text_of_turn, turn_text}
use Rattle.wsm_keyed_intake.specs.Turns.{FitsBy, Goes, Grows, Holds, Reads, TurnedBy, spoken_read}
use Rattle.wsm_keyed_intake.specs.GoesOn.{GoesOnBy, GoneOnBy}
use Rattle.wsm_keyed_intake.proofs.GoingOn.{alike, text_there}
use Rattle.wsm_keyed_intake.proofs.Names.{line_grows, lines_grow}
use Rattle.wsm_keyed_intake.proofs.Telling.{on_ok_all}
use Rattle.wsm_keyed_intake.proofs.intake.KeyedIntake.take.Goals as goal

-- what was said before stays what it was, by the names that come with one line more
pub by_more : (g : KeyedLog) (P : List (List ℕ) → Type 0) (before : List (List ℕ)) (line : List ℕ) → ((later : List (List ℕ)) → P (names_of g (later ++ before))) → (later : List (List ℕ)) → P (names_of g (later ++ line ∷ before))
by_more g P before line by later = subst (λ (ls : List (List ℕ)). P (names_of g ls)) (append_assoc later (line ∷ []) before) (by (later ++ line ∷ []))

module _ (g : KeyedLog) (old : KeyedIntake) (before : List (List ℕ)) (line : List ℕ) (known : old.told.names ≡ names_of g before) (r : Reading) (names : List (List ℕ)) (reads : Reads g r names (line ∷ before)) (later : List (List ℕ)) where
  abbrev all : List (List ℕ)
  all = names_of g (later ++ line ∷ before)

  grown : Grows old.told.names names
  grown =
      let more = line_grows g.most g.source (names_of g before) before line in
      (more.0, reads.known ∙ more.1 ∙ ap (λ (ns : List (List ℕ)). ns ++ more.0) (sym known))

  -- the engines serve so with more names
  serves : (p : Program) (past : List Event) → Serves p old.told past → (mid : KeyedIntake) → mid.told.names ≡ names → mid.told.parts ≡ old.told.parts → mid.told.staying ≡ old.told.staying → Serves p mid.told past
  serves p past told mid is same kept = record {
    lawful = told.lawful;
    panes = told.panes;
    parts = subst (λ (ns : List (List ℕ)). parts.Fits p ns mid.told.parts past) (sym (is ∙ grown.1))
        (subst (λ s. parts.Fits p (old.told.names ++ grown.0) s past) (sym same) (fits_more old.told.names grown.0 p old.told.parts past told.parts));
    staying = subst (λ (o : Option Keeper). IfSome o (λ k. CutsAll p k past)) (sym kept) told.staying;
  }

  grows : Grows names all
  grows = subst (λ (ns : List (List ℕ)). Grows ns all) (sym reads.known) (lines_grow g later (line ∷ before))

pub returns-in-Ok-clause-turned : goal.returns-in-Ok-clause-turned
returns-in-Ok-clause-turned c = λ g before fits.
    let old = c.args.self.now in
    let line = c.args.line.now in
    let p = g.program in
    let s = g.source in
    let clocks = g.clocks in
    let r = c.read.new.self in
    let names = c.read.new.names in
    let reads : Reads g r names (line ∷ before) = record {
      reader = c.in-Ok.ensures.follows s before fits.reads.reader (λ h. cc);
      most = c.in-Ok.ensures.most ∙ fits.reads.most;
      known = c.in-Ok.ensures.names s before fits.reads.reader (λ h. cc) ∙ (λ i. names_after_line (fits.reads.most i) s (fits.reads.known i) before line);
    } in
    let sum : c.in-Some.taken ≡ old.taken + 1 = search rules in
    let mid : KeyedIntake = record old { told = record old.told { lines = c.clear.new.self; names = names }; first = c.note_first.new.first; reader = r; taken = c.in-Some.taken } in
    let new = c.serve.new.self in
    let each : (later : List (List ℕ)) → OnOk c.serve.result (Reads g new.reader new.told.names (line ∷ before) × TurnedBy g (names_of g (later ++ line ∷ before)) new before line) =
    λ later.
    let all = names_of g (later ++ line ∷ before) in
    let d = declared_by g all in
    let w = setting_by clocks p all in
    let there = by_more g (λ ns. FitsBy g ns old before) before line fits.by later in
    let said = said_by g all before in
    let voices = texts.names_of s clocks d before in
    let k = kept_by g all before in
    let v = voiced_in clocks d voices (clock_read r.reader) (Ok (event_read r.reader)) in
    let x = spoken_read r v.voice in
    let event : said_of s d before line ≡ Ok x.event =
    stays_said g.most s p.header.schema g.names later line before
    ∙ ap (λ (ns : List (List ℕ)). said_of s (by_names ns p.header.schema) before line) (sym reads.known)
    ∙ c.in-Ok.ensures.event s p.header.schema before fits.reads.reader in
    let identifier : identifier_of s before line ≡ x.identifier = c.in-Ok.ensures.identifier s before fits.reads.reader in
    let clock : clock_of s before line ≡ clock_read r.reader = c.in-Ok.ensures.clock s before fits.reads.reader in
    let heard : voiced_line s clocks d before line ≡ v = λ i. voiced_in clocks d voices (clock i) (event i) in
    let is : said_next g all before line ≡ Ok x = λ i. spoken_by (identifier i) (heard i).voice (event i) in
    let number : c.in-Some.taken ≡ length said + 1 = sum ∙ ap (λ (n : ℕ). n + 1) there.taken in
    let stamps = few_stamps w said in
    let few : length k.stamps < c.in-Some.taken = omega (arith, stamps, number) in
    let holds : Holds clocks p all mid k = record {
      told = serves g old before line fits.reads.known r names reads later p k.fed there.holds.told mid refl refl refl;
      grows = grows g old before line fits.reads.known r names reads later;
      waiting = there.holds.waiting;
      remembers = there.holds.remembers;
    } in
    on_ok_weaker c.serve.result (λ speaks.
    let heard_by : KeyedIntake = record mid { voices = new.voices; silent = new.silent } in
    let turned : Goes clocks p all heard_by new k (turn_at w k (length said + 1) (Ok x)) (left_at w k (Ok x)) =
    subst (λ (n : ℕ). Goes clocks p all heard_by new k (turn_at w k n (Ok x)) (left_at w k (Ok x))) number speaks.goes in
    let at : Goes clocks p all heard_by new k (turn_at w k (length said + 1) (said_next g all before line)) (left_at w k (said_next g all before line)) =
    subst (λ (y : Said). Goes clocks p all heard_by new k (turn_at w k (length said + 1) y) (left_at w k y)) (sym is) turned in (
      record {
        reader = subst (λ (t : KeyedIntake). Follows s (line ∷ before) t.reader.reader) (sym at.others) reads.reader;
        most = ap (λ (t : KeyedIntake). t.reader.most) at.others ∙ reads.most;
        known = at.names ∙ reads.known;
      },
      record {
        fits = record {
          holds = record { told = at.holds.told; grows = at.holds.grows; waiting = at.holds.waiting; remembers = at.holds.remembers };
          voices = subst (λ (u : Voiced). Knows (named_in clocks) new.voices u.names) (sym heard) speaks.voices;
          taken = ap (λ (t : KeyedIntake). t.taken) at.others ∙ number ∙ one_more (length said);
          faults = ap (λ (t : KeyedIntake). t.faults) at.others ∙ there.faults ∙ ap (λ (y : Said). counter (fault_count (y ∷ said))) (sym is);
          doubles = at.doubles (left_count w said) there.doubles;
          silent = speaks.silent (silent_count said) there.silent ∙ ap (λ (y : Said). counter (silent_count (y ∷ said))) (sym is);
        };
        text = turned.text ∙ ap (λ (l : List ℕ). l ++ turn_text p all clocks said (Ok x)) c.clear.ensures.items ∙ ap (turn_text p all clocks said) (sym is);
      },
    )) (c.serve.ensures clocks p all k voices holds there.voices few) in
    on_ok_weaker c.serve.result (λ h. record { reads = (h []).0; by = λ later. (h later).1 })
    (on_ok_all c.serve.result (λ later. Reads g new.reader new.told.names (line ∷ before) × TurnedBy g (names_of g (later ++ line ∷ before)) new before line) each)

pub returns-in-Err-Fault-clause-turned : goal.returns-in-Err-Fault-clause-turned
returns-in-Err-Fault-clause-turned c = λ g before fits.
    let old = c.args.self.now in
    let line = c.args.line.now in
    let p = g.program in
    let s = g.source in
    let clocks = g.clocks in
    let r = c.read.new.self in
    let names = c.read.new.names in
    let why = c.in-Err-Fault.why in
    let reads : Reads g r names (line ∷ before) = record {
      reader = (rw c.in-Err-Fault.field-0-is at c.in-Err-Fault.ensures.follows s before fits.reads.reader) (λ h. fault_alone why h);
      most = c.in-Err-Fault.ensures.most ∙ fits.reads.most;
      known = (rw c.in-Err-Fault.field-0-is at c.in-Err-Fault.ensures.names s before fits.reads.reader) (λ h. fault_alone why h)
          ∙ (λ i. names_after_line (fits.reads.most i) s (fits.reads.known i) before line);
    } in
    let sum : c.in-Some.taken ≡ old.taken + 1 = search rules in
    let new = c.refuse.new.self in
    on_ok_weaker c.refuse.result (λ text. record {
      reads = record {
        reader = subst (λ (t : KeyedIntake). Follows s (line ∷ before) t.reader.reader) (sym c.refuse.ensures.others) reads.reader;
        most = ap (λ (t : KeyedIntake). t.reader.most) c.refuse.ensures.others ∙ reads.most;
        known = ap (λ (t : KeyedIntake). t.told.names) c.refuse.ensures.others ∙ reads.known;
      };
      by = λ later.
          let all = names_of g (later ++ line ∷ before) in
          let d = declared_by g all in
          let w = setting_by clocks p all in
          let there = by_more g (λ ns. FitsBy g ns old before) before line fits.by later in
          let said = said_by g all before in
          let voices = texts.names_of s clocks d before in
          let k = kept_by g all before in
          let n = length said + 1 in
          let mid : KeyedIntake = record old { told = record old.told { lines = new.told.lines; names = names }; first = c.note_first.new.first; reader = r; taken = c.in-Some.taken; faults = new.faults } in
          let now : new ≡ mid = c.refuse.ensures.others in
          let fault : said_of s d before line ≡ Err why = rw c.in-Err-Fault.field-0-is at c.in-Err-Fault.ensures.fault s d before fits.reads.reader in
          let is : said_next g all before line ≡ Err why = λ i. spoken_by (identifier_of s before line) (voiced_line s clocks d before line).voice (fault i) in
          let named : texts.names_of s clocks d (line ∷ before) ≡ voices = ap (λ (q : Result Event LineFault). (voiced_in clocks d voices (clock_of s before line) q).names) fault in
          let number : c.in-Some.taken ≡ n = sum ∙ ap (λ (m : ℕ). m + 1) there.taken in
          let kept : Holds clocks p all mid k = record {
            told = serves g old before line fits.reads.known r names reads later p k.fed there.holds.told mid refl refl refl;
            grows = grows g old before line fits.reads.known r names reads later;
            waiting = there.holds.waiting;
            remembers = there.holds.remembers;
          } in
          record {
            fits = record {
              holds = subst (λ (y : Said). Holds clocks p all new (turn_at w k n y).kept) (sym is) (subst (λ (t : KeyedIntake). Holds clocks p all t k) (sym now) kept);
              voices = subst (λ (t : KeyedIntake). Knows (named_in clocks) t.voices (texts.names_of s clocks d (line ∷ before))) (sym now) (subst (λ (l : List (List ℕ)). Knows (named_in clocks) old.voices l) (sym named) there.voices);
              taken = ap (λ (t : KeyedIntake). t.taken) now ∙ number ∙ one_more (length said);
              faults = c.refuse.ensures.faults (fault_count said) there.faults ∙ ap (λ (y : Said). counter (fault_count (y ∷ said))) (sym is);
              doubles = no_more new.doubles (left_count w said) (ap (λ (t : KeyedIntake). t.doubles) now ∙ there.doubles) ∙ ap (λ (y : Said). counter (left_count w (y ∷ said))) (sym is);
              silent = ap (λ (t : KeyedIntake). t.silent) now ∙ there.silent ∙ ap (λ (y : Said). counter (silent_count (y ∷ said))) (sym is);
            };
            text = text ∙ ap (λ (l : List ℕ). l ++ fault_text c.in-Some.taken why) c.clear.ensures.items ∙ ap (λ (m : ℕ). fault_text m why) number ∙ ap (text_of_turn p all clocks k n) (sym is);
          };
    }) c.refuse.ensures.text

pub returns-in-Ok-clause-goes_on : goal.returns-in-Ok-clause-goes_on
returns-in-Ok-clause-goes_on c = λ g before on.
    let old = c.args.self.now in
    let line = c.args.line.now in
    let p = g.program in
    let lesser = program_with on.records p in
    let s = g.source in
    let clocks = g.clocks in
    let r = c.read.new.self in
    let names = c.read.new.names in
    let reads : Reads g r names (line ∷ before) = record {
      reader = c.in-Ok.ensures.follows s before on.reads.reader (λ h. cc);
      most = c.in-Ok.ensures.most ∙ on.reads.most;
      known = c.in-Ok.ensures.names s before on.reads.reader (λ h. cc) ∙ (λ i. names_after_line (on.reads.most i) s (on.reads.known i) before line);
    } in
    let sum : c.in-Some.taken ≡ old.taken + 1 = search rules in
    let mid : KeyedIntake = record old { told = record old.told { lines = c.clear.new.self; names = names }; first = c.note_first.new.first; reader = r; taken = c.in-Some.taken } in
    let new = c.serve.new.self in
    let first : (later : List (List ℕ)) → c.note_first.new.first.items ≡ first_of (line ∷ before) = λ later.
    let all = names_of g (later ++ line ∷ before) in
    c.in_ok-note_first.ensures ∙ first_next s clocks (declared_by g all) before line old.first.items old.taken (by_more g (λ ns. GoesOnBy g on.records ns old before) before line on.by later).taken on.first in
    let each : (later : List (List ℕ)) → OnOk c.serve.result ((Reads g new.reader new.told.names (line ∷ before) × ((new.records ≡ old.records) × (new.first ≡ c.note_first.new.first))) × GoneOnBy g on.records (names_of g (later ++ line ∷ before)) new before line) =
    λ later.
    let all = names_of g (later ++ line ∷ before) in
    let d = declared_by g all in
    let w = setting_by clocks lesser all in
    let there = by_more g (λ ns. GoesOnBy g on.records ns old before) before line on.by later in
    let said = said_by g all before in
    let n = length said + 1 in
    let voices = texts.names_of s clocks d before in
    let k = there.other in
    let v = voiced_in clocks d voices (clock_read r.reader) (Ok (event_read r.reader)) in
    let x = spoken_read r v.voice in
    let event : said_of s d before line ≡ Ok x.event =
    stays_said g.most s p.header.schema g.names later line before
    ∙ ap (λ (ns : List (List ℕ)). said_of s (by_names ns p.header.schema) before line) (sym reads.known)
    ∙ c.in-Ok.ensures.event s p.header.schema before on.reads.reader in
    let identifier : identifier_of s before line ≡ x.identifier = c.in-Ok.ensures.identifier s before on.reads.reader in
    let clock : clock_of s before line ≡ clock_read r.reader = c.in-Ok.ensures.clock s before on.reads.reader in
    let heard : voiced_line s clocks d before line ≡ v = λ i. voiced_in clocks d voices (clock i) (event i) in
    let is : said_next g all before line ≡ Ok x = λ i. spoken_by (identifier i) (heard i).voice (event i) in
    let number : c.in-Some.taken ≡ n = sum ∙ ap (λ (m : ℕ). m + 1) there.taken in
    let few : length k.stamps < c.in-Some.taken = omega (arith, there.few, number) in
    let holds : Holds clocks lesser all mid k = record {
      told = serves g old before line on.reads.known r names reads later lesser k.fed there.holds.told mid refl refl refl;
      grows = grows g old before line on.reads.known r names reads later;
      waiting = there.holds.waiting;
      remembers = there.holds.remembers;
    } in
    on_ok_weaker c.serve.result (λ speaks.
    let heard_by : KeyedIntake = record mid { voices = new.voices; silent = new.silent } in
    let turned : Goes clocks lesser all heard_by new k (turn_at w k n (Ok x)) (left_at w k (Ok x)) =
    subst (λ (m : ℕ). Goes clocks lesser all heard_by new k (turn_at w k m (Ok x)) (left_at w k (Ok x))) number speaks.goes in
    let at : Goes clocks lesser all heard_by new k (turn_at w k n (said_next g all before line)) (left_at w k (said_next g all before line)) =
    subst (λ (y : Said). Goes clocks lesser all heard_by new k (turn_at w k n y) (left_at w k y)) (sym is) turned in (
      (
        record {
          reader = subst (λ (t : KeyedIntake). Follows s (line ∷ before) t.reader.reader) (sym at.others) reads.reader;
          most = ap (λ (t : KeyedIntake). t.reader.most) at.others ∙ reads.most;
          known = at.names ∙ reads.known;
        },
        (ap (λ (t : KeyedIntake). t.records) at.others, ap (λ (t : KeyedIntake). t.first) at.others),
      ),
      record {
        goes_on = record {
          other = (turn_at w k n (said_next g all before line)).kept;
          holds = record { told = at.holds.told; grows = at.holds.grows; waiting = at.holds.waiting; remembers = at.holds.remembers };
          stands = (alike g on.lawful on.records all before k there.stands (said_next g all before line)).kept;
          few = subst (λ (y : Said). length (turn_at w k n y).kept.stamps ≤ suc (length said)) (sym is) (few_by w k n (stamp_of w.declared x.event) x (length said) there.few);
          voices = subst (λ (u : Voiced). Knows (named_in clocks) new.voices u.names) (sym heard) speaks.voices;
          taken = ap (λ (t : KeyedIntake). t.taken) at.others ∙ number ∙ one_more (length said);
        };
        text = turned.text ∙ ap (λ (l : List ℕ). l ++ text_of_turn lesser all clocks k n (Ok x)) c.clear.ensures.items ∙ ap (text_of_turn lesser all clocks k n) (sym is)
            ∙ text_there g on.lawful on.records all before k there.stands (said_next g all before line);
      },
    )) (c.serve.ensures clocks lesser all k voices holds there.voices few) in
    on_ok_weaker c.serve.result (λ h. record {
      goes_on = record {
        records = on.records;
        lawful = on.lawful;
        fewer = on.fewer;
        whole = (h []).0.1.0 ∙ on.whole;
        first = ap (λ v. v.items) (h []).0.1.1 ∙ first [];
        reads = (h []).0.0;
        by = λ later. (h later).1.goes_on;
      };
      text = λ later. (h later).1.text;
    })
    (on_ok_all c.serve.result (λ later. (Reads g new.reader new.told.names (line ∷ before) × ((new.records ≡ old.records) × (new.first ≡ c.note_first.new.first))) × GoneOnBy g on.records (names_of g (later ++ line ∷ before)) new before line) each)

pub returns-in-Err-Fault-clause-goes_on : goal.returns-in-Err-Fault-clause-goes_on
returns-in-Err-Fault-clause-goes_on c = λ g before on.
    let old = c.args.self.now in
    let line = c.args.line.now in
    let p = g.program in
    let lesser = program_with on.records p in
    let s = g.source in
    let clocks = g.clocks in
    let r = c.read.new.self in
    let names = c.read.new.names in
    let why = c.in-Err-Fault.why in
    let reads : Reads g r names (line ∷ before) = record {
      reader = (rw c.in-Err-Fault.field-0-is at c.in-Err-Fault.ensures.follows s before on.reads.reader) (λ h. fault_alone why h);
      most = c.in-Err-Fault.ensures.most ∙ on.reads.most;
      known = (rw c.in-Err-Fault.field-0-is at c.in-Err-Fault.ensures.names s before on.reads.reader) (λ h. fault_alone why h)
          ∙ (λ i. names_after_line (on.reads.most i) s (on.reads.known i) before line);
    } in
    let sum : c.in-Some.taken ≡ old.taken + 1 = search rules in
    let new = c.refuse.new.self in
    let mid : KeyedIntake = record old { told = record old.told { lines = new.told.lines; names = names }; first = c.note_first.new.first; reader = r; taken = c.in-Some.taken; faults = new.faults } in
    let now : new ≡ mid = c.refuse.ensures.others in
    let gone : new.told.lines.items ≡ c.clear.new.self.items ++ fault_text c.in-Some.taken why → (later : List (List ℕ)) → GoneOnBy g on.records (names_of g (later ++ line ∷ before)) new before line = λ text later.
    let all = names_of g (later ++ line ∷ before) in
    let d = declared_by g all in
    let w = setting_by clocks lesser all in
    let there = by_more g (λ ns. GoesOnBy g on.records ns old before) before line on.by later in
    let said = said_by g all before in
    let voices = texts.names_of s clocks d before in
    let k = there.other in
    let n = length said + 1 in
    let fault : said_of s d before line ≡ Err why = rw c.in-Err-Fault.field-0-is at c.in-Err-Fault.ensures.fault s d before on.reads.reader in
    let is : said_next g all before line ≡ Err why = λ i. spoken_by (identifier_of s before line) (voiced_line s clocks d before line).voice (fault i) in
    let named : texts.names_of s clocks d (line ∷ before) ≡ voices = ap (λ (q : Result Event LineFault). (voiced_in clocks d voices (clock_of s before line) q).names) fault in
    let number : c.in-Some.taken ≡ n = sum ∙ ap (λ (m : ℕ). m + 1) there.taken in
    let kept : Holds clocks lesser all mid k = record {
      told = serves g old before line on.reads.known r names reads later lesser k.fed there.holds.told mid refl refl refl;
      grows = grows g old before line on.reads.known r names reads later;
      waiting = there.holds.waiting;
      remembers = there.holds.remembers;
    } in
    record {
      goes_on = record {
        other = (turn_at w k n (said_next g all before line)).kept;
        holds = subst (λ (y : Said). Holds clocks lesser all new (turn_at w k n y).kept) (sym is) (subst (λ (t : KeyedIntake). Holds clocks lesser all t k) (sym now) kept);
        stands = (alike g on.lawful on.records all before k there.stands (said_next g all before line)).kept;
        few = subst (λ (y : Said). length (turn_at w k n y).kept.stamps ≤ suc (length said)) (sym is) (let m = there.few in omega (arith, m));
        voices = subst (λ (t : KeyedIntake). Knows (named_in clocks) t.voices (texts.names_of s clocks d (line ∷ before))) (sym now) (subst (λ (l : List (List ℕ)). Knows (named_in clocks) old.voices l) (sym named) there.voices);
        taken = ap (λ (t : KeyedIntake). t.taken) now ∙ number ∙ one_more (length said);
      };
      text = text ∙ ap (λ (l : List ℕ). l ++ fault_text c.in-Some.taken why) c.clear.ensures.items ∙ ap (λ (m : ℕ). fault_text m why) number ∙ ap (text_of_turn lesser all clocks k n) (sym is)
          ∙ text_there g on.lawful on.records all before k there.stands (said_next g all before line);
    } in
    on_ok_weaker c.refuse.result (λ text. record {
      goes_on = record {
        records = on.records;
        lawful = on.lawful;
        fewer = on.fewer;
        whole = ap (λ (t : KeyedIntake). t.records) now ∙ on.whole;
        first = ap (λ (t : KeyedIntake). t.first.items) now
            ∙ c.in_ok-note_first.ensures ∙ first_next s clocks (declared_by g (names_of g (line ∷ before))) before line old.first.items old.taken (by_more g (λ ns. GoesOnBy g on.records ns old before) before line on.by []).taken on.first;
        reads = record {
          reader = subst (λ (t : KeyedIntake). Follows s (line ∷ before) t.reader.reader) (sym now) reads.reader;
          most = ap (λ (t : KeyedIntake). t.reader.most) now ∙ reads.most;
          known = ap (λ (t : KeyedIntake). t.told.names) now ∙ reads.known;
        };
        by = λ later. (gone text later).goes_on;
      };
      text = λ later. (gone text later).text;
    }) c.refuse.ensures.text
