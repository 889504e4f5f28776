-- One line more was taken.
use Rattle.std.proofs.Common.{◌≡◌, ◌∙◌, ◌++◌, ◌+◌, ◌<◌, ◌==◌, ℕ, suc, false, List, [], ◌∷◌, length, ℤ, Option, Ok, refl, sym, ap, subst, arith}
use Rattle.std.proofs.lemmas.Bool.Decides.{nat_tests}
use Rattle.std.specs.Prelude.{◌&&◌, is_some}
use Rattle.wsm_record.specs.Event.{Event, Record, Watermark}
use Rattle.wsm_record.specs.declared.event.Value.{Value}
use Rattle.wsm_turns.specs.declared.voice.Voice.TheVariants.{Key}
use Rattle.wsm_turns.specs.Turns.{Setting, Spoken, is_double, stamp_of}
use Rattle.wsm_row_watermarks.specs.declared.counts.Counts.{Counts}
use Rattle.wsm_row_watermarks.specs.declared.turns.RowTurns.{RowTurns}
use Rattle.wsm_row_watermarks.specs.Fits.{Goes, Holds, Turned, line_by, read_by}
use Rattle.wsm_row_watermarks.specs.Lines.{Line, is_first}
use Rattle.wsm_row_watermarks.specs.Turns.{State, counts_of, double_count, is_left_out, is_unread, recorded, row_turn, state_of, turn_at, unread_count}

not_none : (n : ℕ) → 0 < n → (n == 0) ≡ false
not_none n some = grind (arith, nat_tests)

-- no line was read before the first
pub first_is : (w : Setting) (once : Option ℕ) (before : List (List ℕ)) (n : ℕ) → n ≡ length (read_by w once before) → (n == 0) ≡ is_first before
first_is w once [] n h = ap (λ (m : ℕ). m == 0) h
first_is w once (line ∷ before) n h = not_none n (omega (arith, h))

same_counts : (a b : Counts) → a.lines ≡ b.lines → a.unread ≡ b.unread → a.doubles ≡ b.doubles → a ≡ b
same_counts a b p q r = λ i. record { lines = p i; unread = q i; doubles = r i }

-- one line more behind others
record Taken (w : Setting) (place : Option ℕ) (new : RowTurns) (all : List Line) (line : Line) : Type 0 where
  holds : Holds w new (state_of w (line ∷ all))
  once : new.once ≡ place
  counts : new.counts ≡ counts_of w (line ∷ all)
  text : new.handed.text.items ≡ (row_turn w (state_of w all) (length all + 1) line).text

pub line_taken : (w : Setting) (once : Option ℕ) (before : List (List ℕ)) (raw : List ℕ) (line : Line) (counts : Counts) (mid new : RowTurns) → line_by w once before raw ≡ line
    → counts ≡ counts_of w (read_by w once before) → mid.counts.unread ≡ counts.unread → mid.counts.doubles ≡ counts.doubles → mid.counts.lines ≡ length (read_by w once before) + 1
    → mid.once ≡ once → mid.handed.text.items ≡ []
    → Goes w mid new (row_turn w (state_of w (read_by w once before)) mid.counts.lines line) (is_unread line) (is_left_out w (state_of w (read_by w once before)) line.said)
    → Turned w once new before raw
line_taken w once before raw line counts mid new is counted unread doubles lines onced none goes =
    let all = read_by w once before in
    let s = state_of w all in
    let next : length all + 1 ≡ suc (length all) = omega arith in
    let at : Goes w mid new (row_turn w s (length all + 1) line) (is_unread line) (is_left_out w s line.said)
    = subst (λ (n : ℕ). Goes w mid new (row_turn w s n line) (is_unread line) (is_left_out w s line.said)) lines goes in
    let taken : Taken w once new all (line_by w once before raw) = subst (Taken w once new all) (sym is) (record {
      holds = at.holds;
      once = at.once ∙ onced;
      counts = same_counts new.counts (counts_of w (line ∷ all)) (at.lines ∙ lines ∙ next)
          (at.unread (unread_count all) (unread ∙ ap (λ (c : Counts). c.unread) counted)) (at.doubles (double_count w all) (doubles ∙ ap (λ (c : Counts). c.doubles) counted));
      text = at.text ∙ ap (λ (l : List ℕ). l ++ (row_turn w s (length all + 1) line).text) none;
    }) in
    record { fits = record { holds = taken.holds; once = taken.once; counts = taken.counts }; text = taken.text }

-- the turn of an event that is a record
pub turn_of_record : (w : Setting) (s : State) (number : ℕ) (line : Line) (identifier : Option (List ℕ)) (e : Event) (key : Option ℕ) (time : ℤ) (values : List Value) → e ≡ Record key time values
    → turn_at w s number line identifier e ≡ recorded w s number line (record { event = e; identifier = identifier; voice = Key })
turn_of_record w s number line identifier e key time values is =
    subst (λ (x : Event). turn_at w s number line identifier x ≡ recorded w s number line (record { event = x; identifier = identifier; voice = Key })) (sym is) refl

-- a watermark isn't left out
pub mark_stays : (w : Setting) (s : State) (x : Spoken) (source : Option ℕ) (time : ℤ) → x.event ≡ Watermark source time → is_left_out w s (Ok x) ≡ false
mark_stays w s x source time is = ap (λ (e : Event). is_some (stamp_of w.declared e) && is_double x.identifier s.kept.memory) is
