-- Sessions key by key, as times come, and their first times.
use Rattle.std.proofs.Common.{◌≡◌, ℕ, zero, suc, ◌+◌, drop, Bool, true, false, cond, List, [], ◌∷◌, ◌++◌, map, ℤ, pos, ◌+ℤ◌, ◌-ℤ◌, Option, Some, None, refl, sym, ap, ◌∙◌, arith}
use Rattle.std.proofs.lemmas.Int.{ints}
use Rattle.std.proofs.lemmas.Option.{slice_get-map, same_Some, slice_get_within, get_or_from_slice_get}
use Rattle.std.proofs.lemmas.List.{drop_more}
use Rattle.wsm_windows.specs.declared.window.Window.{Window}
use Rattle.std.specs.Prelude.{option_map, unwrap_or, slice_get}
use Rattle.wsm_sessions.specs.Live.{Live, Fits}
use Rattle.wsm_semantics.specs.FromWatermark.{is_beside, unparted_time}
use Rattle.wsm_semantics.specs.Sessions.{sessions}
use Rattle.wsm_keep.specs.declared.firsts.Firsts.{Firsts}
use Rattle.wsm_keep.specs.Holds.{Queued, times_in}
use Rattle.wsm_keep.specs.Items.{times_of}
use Rattle.wsm_keep.specs.OfKeys.{IsOfTimes, AreOfKeys, AreNone}

pub none_more : (gap : ℤ) (keys : List Live) (s : Live) → AreNone gap keys → s.gap ≡ gap → Fits s [] → AreNone gap (keys ++ s ∷ [])
none_more gap [] s none is fits zero = (is, fits)
none_more gap [] s none is fits (suc key) = refl
none_more gap (x ∷ keys) s none is fits zero = none zero
none_more gap (x ∷ keys) s none is fits (suc key) = none_more gap keys s (λ k. none (suc k)) is fits key

back : (t : ℤ) → (t +ℤ pos 1) -ℤ pos 1 ≡ t
back t = omega (arith, ints)

-- the first times are those of the sessions
pub firsts_are : (gap time : ℤ) (f : Firsts) (keys : List Live) (queue : List Queued) → AreOfKeys gap keys queue →
    map (λ first. first -ℤ pos 1) f.each.items ≡ map (λ (s : Live). unparted_time gap time s.windows) keys → f.others ≡ time +ℤ pos 1 →
    (key : ℕ) → times_of f key ≡ unparted_time gap time (sessions gap (times_in key queue))
firsts_are gap time f keys queue are firsts others key =
    by (slice_get f.each.items key) (slice_get keys key)
    (sym (slice_get-map (λ first. first -ℤ pos 1) f.each.items key) ∙ ap (λ (ts : List ℤ). slice_get ts key) firsts ∙ slice_get-map (λ (s : Live). unparted_time gap time s.windows) keys key)
    (are key)
  where
    by : (a : Option ℤ) (o : Option Live) → option_map (λ first. first -ℤ pos 1) a ≡ option_map (λ (s : Live). unparted_time gap time s.windows) o → IsOfTimes gap o (times_in key queue) →
        unwrap_or a f.others -ℤ pos 1 ≡ unparted_time gap time (sessions gap (times_in key queue))
    by None None same of = ap (λ (n : ℤ). n -ℤ pos 1) others ∙ back time ∙ sym (ap (λ (ts : List ℤ). unparted_time gap time (sessions gap ts)) of)
    by None (Some s) same of = absurd (cc same)
    by (Some n) None same of = absurd (cc same)
    by (Some n) (Some s) same of =
        same_Some (n -ℤ pos 1) (unparted_time gap time s.windows) same
        ∙ ap (unparted_time gap time) of.1
        ∙ ap (λ (g : ℤ). unparted_time gap time (sessions g (times_in key queue))) of.0

-- ---- one session after the other

rest_is : (ws : List Window) (i : ℕ) (w : Window) → slice_get ws i ≡ Some w → drop i ws ≡ w ∷ drop (i + 1) ws
rest_is ws i w is = drop_more ws i w (slice_get_within ws i w is) ∙ ap (λ (v : Window). v ∷ drop (i + 1) ws) (get_or_from_slice_get ws i w w is)

pub parted_at : (gap time : ℤ) (ws : List Window) (i : ℕ) (w : Window) → slice_get ws i ≡ Some w → is_beside gap time w ≡ false → unparted_time gap time (drop i ws) ≡ w.start -ℤ pos 1
parted_at gap time ws i w is parted = ap (unparted_time gap time) (rest_is ws i w is) ∙ ap (λ (b : Bool). cond b (unparted_time gap time (drop (i + 1) ws)) (w.start -ℤ pos 1)) parted

pub beside_at : (gap time : ℤ) (ws : List Window) (i : ℕ) (w : Window) → slice_get ws i ≡ Some w → is_beside gap time w ≡ true → unparted_time gap time (drop i ws) ≡ unparted_time gap time (drop (i + 1) ws)
beside_at gap time ws i w is beside = ap (unparted_time gap time) (rest_is ws i w is) ∙ ap (λ (b : Bool). cond b (unparted_time gap time (drop (i + 1) ws)) (w.start -ℤ pos 1)) beside
