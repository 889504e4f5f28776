use Rattle.std.proofs.Common.{rules, SFits, to_z, of_z, to_z-of_z, w64, ◌∙◌, ◌++◌, ℕ, List, [], length, refl, ap, sym, subst}
use Rattle.wsm_turns.specs.Clocks.{count_in}
use Rattle.wsm_turns.specs.Turns.{start_of}
use Rattle.wsm_turns.specs.Waits.{Hear}
use Rattle.wsm_keyed_intake.specs.KeyedLog.{KeyedLog, names_of}
use Rattle.wsm_keyed_intake.specs.Turns.{Grows}
use Rattle.wsm_program.specs.Program.{Header}
use Rattle.wsm_keyed_intake.specs.declared.intake.KeyedIntake.{KeyedIntake}
use Rattle.wsm_keyed_intake.proofs.GoingOn.{begins}
use Rattle.wsm_keyed_intake.proofs.Names.{lines_grow}
use Rattle.wsm_keyed_intake.proofs.Stamps.{count_same}
use Rattle.wsm_keyed_intake.proofs.intake.KeyedIntake.open.Goals as goal

pub returns-clause-fits : goal.returns-clause-fits
returns-clause-fits c =
    let clocks = c.args.clocks in
    let g : KeyedLog = record { program = c.args.parts.program; source = c.args.source; clocks = clocks; names = c.args.names; most = c.args.most } in
    let told = c.of.ensures.serves in
    record {
      reads = record { reader = c.new.ensures.reader; most = c.new.ensures.most; known = c.of.ensures.names };
      by = λ later.
          let all = names_of g (later ++ []) in
          record {
            holds = record {
              told = record { lawful = told.lawful; panes = told.panes; parts = told.parts; staying = told.staying };
              grows = subst (λ (ns : List (List ℕ)). Grows ns all) (sym c.of.ensures.names) (lines_grow g later []);
              waiting = count_same clocks (length c.args.parts.program.header.schema.keys) (length all) c.in_ok-waiting.waiting [] (start_of clocks) [] c.requires.named
                  (subst (λ (n : ℕ). Hear clocks n c.in_ok-waiting.waiting [] (start_of clocks) [])
                  (c.count_in-count.ensures.count ∙ ap (count_in clocks) c.block.ensures.block) c.in_ok-waiting.ensures.waiting);
              remembers = c.identifiers_of-identifiers.ensures.none clocks all _;
            };
            voices = c.in_ok-waiting.ensures.voices;
            taken = refl;
            faults = refl;
            doubles = refl;
            silent = refl;
          };
    }

pub returns-clause-goes_on : goal.returns-clause-goes_on
returns-clause-goes_on c =
    let g : KeyedLog = record { program = c.args.parts.program; source = c.args.source; clocks = c.args.clocks; names = c.args.names; most = c.args.most } in
    let fits : SFits w64 c.header.result.now.clock.records = search rules in
    let t : KeyedIntake = record {
      told = c.of.result;
      reader = c.new.result;
      waiting = c.in_ok-waiting.waiting;
      voices = c.in_ok-waiting.voices;
      identifiers = c.identifiers_of-identifiers.result;
      records = to_z w64 (of_z w64 c.header.result.now.clock.records);
      first = c.new-2.result;
      taken = 0;
      faults = 0;
      doubles = 0;
      silent = 0;
    } in
    begins g t (to_z-of_z fits ∙ ap (λ (h : Header). h.clock.records) c.header.ensures.header) c.new-2.ensures.items (returns-clause-fits c)
