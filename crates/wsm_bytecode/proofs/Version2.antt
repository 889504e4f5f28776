-- The settings of version 2, by what spells them.
use Rattle.std.proofs.Common.{◌++◌, leb, ◌≡◌, ◌≤◌, Bool, true, false, length, [], refl, sym, subst, append_assoc, append-nil, arith}
use Rattle.std.proofs.lemmas.Bool.{le-leb, and_parts, and_from}
use Rattle.wsm_record.specs.declared.Mode.{Mode}
use Rattle.wsm_record.specs.Modes.{may_write}
use Rattle.wsm_record.specs.Schema.{is_source_count, are_names_after}
use Rattle.wsm_program.specs.Program.{is_span, is_shape, is_timely}
use Rattle.wsm_program.proofs.Within.{at_most}
use Rattle.wsm_bytecode.specs.Tags.{form_tag, shape_tag, last_shape_tag}
use Rattle.wsm_bytecode.specs.Parts.{Settings, mode, signed}
use Rattle.wsm_bytecode.specs.Steps.{form_of}
use Rattle.wsm_bytecode.specs.Version2.{shape, form, settings, windows_at, form_at, shown_at, settings_at}
use Rattle.wsm_bytecode.proofs.Coded.{Any, Codes, good_so, respelled, all_good, made, chain, settled, byte_codes, byte_between, truth_codes}
use Rattle.wsm_bytecode.proofs.CodedParts.{sources_codes, IsOf, windows_codes, mode_codes, triggers_codes, form_is_small, IsForm, form_found, form_is}
use Rattle.wsm_bytecode.proofs.Lateness.{tag_within, timely_within}
use Rattle.wsm_bytecode.proofs.Settings.{SettingsParts, few_sources}

last_is_small : (b : Bool) → last_shape_tag b ≤ 2
last_is_small false = omega arith
last_is_small true = omega arith

shape_codes : (b : Bool) → Codes (IsOf b) (λ w. (is_timely w.1 w.0 ≡ true) × (is_shape w.0 ≡ true)) (windows_at b) (λ w. shape w.0)
unfolding windows_at
shape_codes b =
    good_so
    (chain (λ w. shape_tag w.0) (byte_between 0 (last_shape_tag b) (omega (arith, last_is_small b))) (λ tag h. windows_codes b tag (omega (arith, at_most 0 (last_shape_tag b) tag h, last_is_small b))))
    (λ w. refl)
    (λ w k h. (and_from (leb 0 (shape_tag w.0)) (leb (shape_tag w.0) (last_shape_tag b)) (le-leb _ _ (omega arith)) (le-leb _ _ (tag_within w.0 b (subst (λ c. is_timely c w.0 ≡ true) k.1 h.0))), h.1))
    (λ w k h. (subst (λ c. is_timely c w.0 ≡ true) (sym k.1) (timely_within b w.0 (at_most 0 (last_shape_tag b) (shape_tag w.0) h.0)), h.1))

form_codes : (m : Mode) → Codes Any (λ f. may_write m f ≡ true) (form_at m) form
unfolding form_at
form_codes m =
    good_so (chain form_tag byte_codes (λ n _. settled (λ f. f) (form_of m n) (IsForm m n) (form_found m n) (form_is m n) (λ f h. made f ((tt, h.0), refl) (λ z k. k.1)))) (λ f. refl)
    (λ f _ h. (omega (arith, form_is_small f), ((refl, h), tt))) (λ f _ h. h.1.0.1)

shown_codes : Codes Any (λ s. Any s.0 × (((is_span s.1.0.0 ≡ true) × (is_span s.1.0.1 ≡ true)) × ((may_write s.0 s.1.1 ≡ true) × Any s))) shown_at (λ s. mode s.0 ++ ((signed s.1.0.0 ++ signed s.1.0.1) ++ form s.1.1))
unfolding shown_at
shown_codes =
    let parts = chain (λ s. s.0) mode_codes (λ m _. chain (λ s. s.1.0) triggers_codes (λ g _. chain (λ s. s.1.1) (form_codes m) (λ f _. made (m, (g, f)) (((tt, refl), refl), refl) (λ s k i. (k.0.0.1 i, (k.0.1 i, k.1 i)))))) in
    respelled parts (λ s. simp append-nil refl)

pub settings_codes : Codes Any SettingsParts settings_at settings
unfolding settings_at
settings_codes =
    let parts = chain (λ (s : Settings). s.from_window) truth_codes (λ from_window _. chain (λ s. s.sources) (sources_codes is_source_count few_sources) (λ names _.
    chain (λ s. (s.shape, s.from_window)) (all_good (shape_codes from_window)) (λ w p. chain (λ s. (s.mode, ((s.early, s.late), s.form))) shown_codes (λ x _.
    made (record { shape = w.0; from_window = w.1; mode = x.0; early = x.1.0.0; late = x.1.0.1; form = x.1.1; sources = names })
    ((((tt, p.0.1), refl), refl), refl)
    (λ s k i. (let x = k.1 i in record { shape = (k.0.1 i).0; from_window = (k.0.1 i).1; mode = x.0; early = x.1.0.0; late = x.1.0.1; form = x.1.1; sources = k.0.0.1 i })))))) in
    good_so parts (λ s. simp (append_assoc, append-nil) refl)
    (λ s _ p. (
    let names = and_parts (is_source_count (length s.sources)) (are_names_after [] s.sources) p.sources in
    (tt, ((names.0, names.1), (((tt, refl), (p.timely, p.shape)), ((tt, ((p.early, p.late), (p.form, tt))), tt))))
    ))
    (λ s _ h. record { timely = h.1.1.0.1.0; sources = and_from _ _ h.1.0.0 h.1.0.1; shape = h.1.1.0.1.1; early = h.1.1.1.0.1.0.0; late = h.1.1.1.0.1.0.1; form = h.1.1.1.0.1.1.0 })
