-- A row that is no event is passed over.
use Rattle.std.proofs.Common.{◌≡◌, ℕ, List, ◌∷◌, Err, refl, ap, ◌∙◌}
use Rattle.wsm_record.specs.declared.event.RowFault.{RowFault}
use Rattle.wsm_record.specs.declared.words.Form.{Form}
use Rattle.wsm_record.specs.declared.words.Form.TheVariants.{Panes, Istream, Dstream, Rstream}
use Rattle.wsm_semantics.specs.Query.{Query}
use Rattle.wsm_program.specs.Program.{Program}
use Rattle.wsm_machine.specs.Meaning.{query_of}
use Rattle.wsm_keep.specs.Staying.{staying, staying_for}
use Rattle.wsm_keep.specs.Holds.{Written, read}
use Rattle.wsm_cut.specs.Cutter.{Fits}
use Rattle.wsm_cut.specs.declared.cutter.Cutter.{Cutter}

by_form : (q : Query) (why : RowFault) (text : List ℕ) (rows : List Written) (form : Form) → staying_for form read q ((Err why, text) ∷ rows) ≡ staying_for form read q rows
by_form q why text rows Panes = refl
by_form q why text rows Istream = refl
by_form q why text rows Dstream = refl
by_form q why text rows Rstream = refl

-- it never stays
pub staying_over : (q : Query) (why : RowFault) (text : List ℕ) (rows : List Written) → staying read q ((Err why, text) ∷ rows) ≡ staying read q rows
staying_over q why text rows = by_form q why text rows q.form

-- and a cutter that wasn't told of it has all the same
pub fits_over : (p : Program) (c : Cutter) (rows : List Written) (why : RowFault) (text : List ℕ) → Fits p c rows → Fits p c ((Err why, text) ∷ rows)
fits_over p c rows why text fits =
    let queues = fits.keeper.queues in
    record {
      lawful = fits.lawful;
      keeper = record {
        of = fits.keeper.of;
        queues = record {
          newer = (Err why, text) ∷ queues.newer;
          older = queues.older;
          split = ap (λ (rs : List Written). (Err why, text) ∷ rs) queues.split;
          since = queues.since;
          holds = queues.holds;
          before = queues.before;
          stays = staying_over (query_of p) why text rows ∙ queues.stays;
          alone = queues.alone;
        };
      };
    }
