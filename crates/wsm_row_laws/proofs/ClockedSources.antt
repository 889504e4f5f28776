-- The lines of a source tell no watermark, so with clocks a run feeds what passes of the records that they deliver.
use Rattle.std.proofs.Common.{ℕ, List, [], ◌∷◌, Option, Result, Ok, Err}
use Rattle.std.specs.Prelude.{IfOk, ⊤}
use Rattle.wsm_record.specs.Event.{Event, Record}
use Rattle.wsm_record.specs.Schema.{Declared}
use Rattle.wsm_lines.specs.Event.{event_in, key_of, time_at, values_of}
use Rattle.wsm_lines.specs.Fault.{on_ok}
use Rattle.wsm_lines.specs.Identifier.{identifier_at}
use Rattle.wsm_lines.specs.Said.{event_by, identifier_of, said_of, taken_of}
use Rattle.wsm_lines.specs.Scalar.{Taken}
use Rattle.wsm_lines.specs.declared.fault.LineFault.{LineFault}
use Rattle.wsm_lines.specs.declared.source.Source.{Source}
use Rattle.wsm_turns.specs.declared.clocks.Clocks.{Clocks}
use Rattle.wsm_turns.specs.declared.voice.Voice.{Voice}
use Rattle.wsm_turns.specs.Turns.{spoken_by}
use Rattle.wsm_log_text.specs.LogText.{Said, said, voiced_line}
use Rattle.wsm_turn_laws.specs.Delivered.{AllLeaveMark, LeavesMark}
use Rattle.wsm_row_laws.proofs.Sayable.{any, if_ok}

leaves_event : (d : Declared) (s : Source) (taken : Taken) → IfOk (event_in s d taken) LeavesMark
leaves_event d s taken =
    if_ok LeavesMark LeavesMark _ _
    (if_ok LeavesMark (λ key. ⊤) (key_of s.key d taken) _ (any _)
    (λ key _. if_ok LeavesMark (λ time. ⊤) (time_at s.time taken) _ (any _)
    (λ time _. if_ok LeavesMark (λ vs. ⊤) (values_of s.fields taken) (λ vs. Ok (Record key time vs)) (any _) (λ vs _. tt))))
    (λ e leaves. kept e leaves (identifier_at s.identifier taken))
  where
    kept : (e : Event) → LeavesMark e → (r : Result (Option (List ℕ)) LineFault) → IfOk (on_ok r (λ identifier. Ok e)) LeavesMark
    kept e leaves (Ok i) = leaves
    kept e leaves (Err why) = tt

leaves_taken : (d : Declared) (s : Source) (taken : Result Taken LineFault) → IfOk (event_by s d taken) LeavesMark
leaves_taken d s (Ok taken) = leaves_event d s taken
leaves_taken d s (Err why) = tt

one_more : (identifier : Option (List ℕ)) (voice : Voice) (r : Result Event LineFault) (before : List Said) → IfOk r LeavesMark → AllLeaveMark before → AllLeaveMark (spoken_by identifier voice r ∷ before)
one_more identifier voice (Ok e) before leaves all = (leaves, all)
one_more identifier voice (Err why) before leaves all = all

pub leave_mark : (d : Declared) (s : Source) (clocks : Option Clocks) (lines : List (List ℕ)) → AllLeaveMark (said s clocks d lines)
leave_mark d s clocks [] = tt
leave_mark d s clocks (line ∷ before) =
    one_more (identifier_of s before line) (voiced_line s clocks d before line).voice (said_of s d before line) (said s clocks d before) (leaves_taken d s (taken_of s before line)) (leave_mark d s clocks before)
