-- Turns that were taken.
use Rattle.std.proofs.Common.{◌≡◌, ◌∙◌, ◌++◌, ℕ, Bool, true, false, List, [], ◌∷◌, map, length, Option, None, Some, Ok, refl, sym, ap, subst, append-nil, append_assoc}
use Rattle.std.specs.Prelude.{◌&&◌, if◌then◌else◌, is_some}
use Rattle.wsm_record.specs.Event.{Event}
use Rattle.wsm_watermarks.specs.declared.stamp.Stamp.{Stamp}
use Rattle.wsm_turns.specs.declared.identifiers.Identifiers.{Identifiers}
use Rattle.wsm_turns.specs.declared.waiting.Waiting.{Waiting}
use Rattle.wsm_turns.specs.declared.voice.Voice.TheVariants.{Key}
use Rattle.wsm_turns.specs.Known.{Passes}
use Rattle.wsm_turns.specs.Noted.{Notes, noted_by}
use Rattle.wsm_turns.specs.Numbered.{Numbered}
use Rattle.wsm_turns.specs.Turns.{Setting, Spoken, fed_with, is_double, numbered, stamp_of, stamped, turn_by, watermark}
use Rattle.wsm_turns.specs.Waits.{Takes}
use Rattle.wsm_turns.proofs.Remembering.{mark_rises, remembers_on}
use Rattle.wsm_row_watermarks.specs.declared.counts.Counts.{Counts}
use Rattle.wsm_row_watermarks.specs.declared.handed.Handed.{Handed}
use Rattle.wsm_row_watermarks.specs.declared.turns.RowTurns.{RowTurns}
use Rattle.wsm_row_watermarks.specs.Fits.{Begins, CountsIf, Goes}
use Rattle.wsm_row_watermarks.specs.Handed.{Serves, Tells, Took, fed_append}
use Rattle.wsm_row_watermarks.specs.Lines.{Line}
use Rattle.wsm_row_watermarks.specs.Turns.{State, events_text, is_left_out, marked, recorded, recorded_by, setting_in, with_feed}
use Rattle.wsm_row_watermarks.proofs.Counting.{as_many}

-- a record by its key
abbrev by_key : Event → Option (List ℕ) → Spoken
by_key e identifier = record { event = e; identifier = identifier; voice = Key }

module _ (w : Setting) (s : State) (line : Line) (old : RowTurns) (begins : Begins w old s line.text) where
  -- a record that says nothing of time goes on
  pub record_goes : (handed : Handed) (x : Spoken) → stamp_of w.declared x.event ≡ None → Tells w old.handed handed s.kept.fed (record { number = old.counts.lines; event = x.event } ∷ [])
      → Goes w old (record old { handed = handed }) (recorded w s old.counts.lines line x) false (is_left_out w s (Ok x))
  record_goes handed x is tells =
      let k = s.kept in
      let n = old.counts.lines in
      let gs : List Numbered = record { number = n; event = x.event } ∷ [] in
      subst (λ (o : Option Stamp). Goes w old (record old { handed = handed }) (recorded_by w s n line (turn_by (setting_in w s) k n o x)) false (is_some o && is_double x.identifier k.memory)) (sym is) (record {
        holds = record {
          told = tells.serves;
          waiting = begins.holds.waiting;
          remembers = remembers_on w (watermark w k.fed) (watermark w (fed_with k.fed gs)) old.identifiers k.memory (mark_rises w k.fed gs) begins.holds.remembers;
        };
        text = tells.text ∙ (λ i. old.handed.text.items ++ events_text w.declared (begins.number i) (begins.line i) gs);
        once = refl;
        lines = refl;
        unread = as_many old.counts.unread;
        doubles = as_many old.counts.doubles;
      })

  -- a record with its stamp, of whose identifier note was taken
  pub record_passes : (handed : Handed) (waiting : Option Waiting) (identifiers : Identifiers) (stamp : Stamp) (e : Event) (identifier : Option (List ℕ)) → stamp_of w.declared e ≡ Some stamp
      → Passes w (watermark w s.kept.fed) identifiers identifier stamp.time s.kept.memory true
      → Takes s.clocks (length w.declared.keys) s.kept waiting (Took old.handed handed) stamp old.counts.lines e
      → Goes w old (record old { handed = handed; waiting = waiting; identifiers = identifiers }) (recorded w s old.counts.lines line (by_key e identifier)) false (is_left_out w s (Ok (by_key e identifier)))
  record_passes handed waiting identifiers stamp e identifier is passes takes =
      let x = by_key e identifier in
      let k = s.kept in
      let n = old.counts.lines in
      let new : RowTurns = record old { handed = handed; waiting = waiting; identifiers = identifiers } in
      let turn = stamped (setting_in w s) k n stamp x in
      let tells = takes.took w k.fed begins.holds.told in
      let whole : Goes w old new (recorded_by w s n line turn) false false = record {
        holds = record {
          told = tells.serves;
          waiting = takes.hears;
          remembers = passes.noted refl (watermark w (fed_with k.fed turn.goes)) (mark_rises w k.fed turn.goes);
        };
        text = tells.text ∙ (λ i. old.handed.text.items ++ events_text w.declared (begins.number i) (begins.line i) turn.goes);
        once = refl;
        lines = refl;
        unread = as_many old.counts.unread;
        doubles = as_many old.counts.doubles;
      } in
      let by_double = subst (λ (b : Bool). Goes w old new (recorded_by w s n line (if b then record { goes = []; kept = k } else turn)) false b) (sym passes.answer) whole in
      subst (λ (o : Option Stamp). Goes w old new (recorded_by w s n line (turn_by (setting_in w s) k n o x)) false (is_some o && is_double x.identifier k.memory)) (sym is) by_double

  -- a double is left out
  pub record_left : (identifiers : Identifiers) (counts : Counts) (stamp : Stamp) (e : Event) (identifier : Option (List ℕ)) → stamp_of w.declared e ≡ Some stamp
      → Passes w (watermark w s.kept.fed) identifiers identifier stamp.time s.kept.memory false
      → counts.lines ≡ old.counts.lines → counts.unread ≡ old.counts.unread → CountsIf true old.counts.doubles counts.doubles
      → Goes w old (record old { identifiers = identifiers; counts = counts }) (recorded w s old.counts.lines line (by_key e identifier)) false (is_left_out w s (Ok (by_key e identifier)))
  record_left identifiers counts stamp e identifier is passes lines unread doubles =
      let x = by_key e identifier in
      let k = s.kept in
      let n = old.counts.lines in
      let new : RowTurns = record old { identifiers = identifiers; counts = counts } in
      let turn = stamped (setting_in w s) k n stamp x in
      let whole : Goes w old new (recorded_by w s n line (record { goes = []; kept = k })) false true = record {
        holds = record {
          told = begins.holds.told;
          waiting = begins.holds.waiting;
          remembers = passes.double refl;
        };
        text = sym (append-nil old.handed.text.items);
        once = refl;
        lines = lines;
        unread = subst (λ (m : ℕ). CountsIf false old.counts.unread m) (sym unread) (as_many old.counts.unread);
        doubles = doubles;
      } in
      let by_double = subst (λ (b : Bool). Goes w old new (recorded_by w s n line (if b then record { goes = []; kept = k } else turn)) false b) (sym passes.answer) whole in
      subst (λ (o : Option Stamp). Goes w old new (recorded_by w s n line (turn_by (setting_in w s) k n o x)) false (is_some o && is_double x.identifier k.memory)) (sym is) by_double

  -- a watermark that doesn't count as told goes on
  pub mark_goes : (handed : Handed) (e : Event) → Serves w handed (e ∷ s.kept.fed) → handed.text.items ≡ old.handed.text.items ++ with_feed old.handed.line.items
      → Goes w old (record old { handed = handed }) (marked w s old.counts.lines line e None) false false
  mark_goes handed e serves text =
      let k = s.kept in
      let gs : List Numbered = record { number = old.counts.lines; event = e } ∷ [] in record {
        holds = record {
          told = serves;
          waiting = begins.holds.waiting;
          remembers = remembers_on w (watermark w k.fed) (watermark w (fed_with k.fed gs)) old.identifiers k.memory (mark_rises w k.fed gs) begins.holds.remembers;
        };
        text = text ∙ ap (λ (l : List ℕ). old.handed.text.items ++ with_feed l) begins.line;
        once = refl;
        lines = refl;
        unread = as_many old.counts.unread;
        doubles = as_many old.counts.doubles;
      }

  -- one that does goes on behind what waits and isn't ahead of it
  pub mark_tells : (mid handed : Handed) (waiting : Option Waiting) (e : Event) (mark : ℕ) → Notes s.clocks (length w.declared.keys) s.kept waiting (Took old.handed mid) mark old.counts.lines
      → Serves w handed (e ∷ fed_with s.kept.fed (map (numbered old.counts.lines) (noted_by s.clocks s.kept mark).out)) → handed.text.items ≡ mid.text.items ++ with_feed mid.line.items
      → Goes w old (record old { handed = handed; waiting = waiting }) (marked w s old.counts.lines line e (Some mark)) false false
  mark_tells mid handed waiting e mark notes serves text =
      let k = s.kept in
      let n = old.counts.lines in
      let front = map (numbered n) (noted_by s.clocks k mark).out in
      let g : Numbered = record { number = n; event = e } in
      let tells = notes.took w k.fed begins.holds.told in
      let fed : fed_with k.fed (front ++ g ∷ []) ≡ e ∷ fed_with k.fed front = fed_append k.fed front (g ∷ []) in record {
        holds = record {
          told = subst (Serves w handed) (sym fed) serves;
          waiting = notes.hears;
          remembers = remembers_on w (watermark w k.fed) (watermark w (fed_with k.fed (front ++ g ∷ []))) old.identifiers k.memory (mark_rises w k.fed (front ++ g ∷ [])) begins.holds.remembers;
        };
        text = text
            ∙ (λ i. tells.text i ++ with_feed (tells.line i))
            ∙ append_assoc old.handed.text.items (events_text w.declared old.handed.number old.handed.line.items front) (with_feed old.handed.line.items)
            ∙ (λ i. old.handed.text.items ++ (events_text w.declared (begins.number i) (begins.line i) front ++ with_feed (begins.line i)));
        once = refl;
        lines = refl;
        unread = as_many old.counts.unread;
        doubles = as_many old.counts.doubles;
      }
