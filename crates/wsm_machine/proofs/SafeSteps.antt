-- An instruction of which no verifier rule holds meets no trap, and leads along an edge to a state that fits what the edge carries.
use Rattle.std.proofs.Common.{◌≡◌, ◌∙◌, ℕ, suc, ◌+◌, ◌-◌, ◌<◌, Bool, true, false, not, ◌⊎◌, inl, inr, List, [], ◌∷◌, ◌++◌, length, drop, map, Option, Some, None, refl, sym, subst, ap, arith, length-drop}
use Rattle.std.proofs.lemmas.Bool.{true≢false, not-false}
use Rattle.std.proofs.lemmas.List.{map-set}
use Rattle.std.specs.Prelude.{nat_lt, is_some, is_none, option_map, slice_index_or}
use Rattle.std.proofs.lemmas.Option.{same_Some}
use Rattle.wsm_record.specs.declared.event.Value.{Value}
use Rattle.wsm_record.specs.declared.words.Kind.{Kind}
use Rattle.wsm_program.specs.declared.instr.Instr.{Instr}
use Rattle.wsm_program.specs.declared.instr.Instr.TheVariants.{Fold, Return}
use Rattle.wsm_program.specs.declared.instr.SectionId.{SectionId}
use Rattle.wsm_program.specs.Program.{Program, section}
use Rattle.wsm_rules.specs.declared.known.Known.{Known}
use Rattle.wsm_rules.specs.Labels as labels
use Rattle.wsm_rules.specs.Rules as rules
use Rattle.wsm_rules.proofs.AcceptedPlaces.{Passes}
use Rattle.wsm_record.specs.declared.cell.Cell.{Cell}
use Rattle.wsm_machine.specs.Inputs.{Inputs}
use Rattle.wsm_program.specs.Instructions.{pops, how_many}
use Rattle.wsm_machine.specs.Step.{Setting, State, setting, Goes, step, taken, after, folds_twice, has_no_room, pushed, push_on, with_fold, value_of, returns_badly}
use Rattle.wsm_machine.specs.Fits.{FitsAll, FitsState, ReadsFit, Moves, GoesOn}
use Rattle.wsm_machine.proofs.FittingStacks.{no, length_fits, drop_fits}
use Rattle.wsm_machine.proofs.PushedValues.{FitsPushed, Gives, gives}
use Rattle.wsm_machine.proofs.NextPlaces.{leads_on, jumps_well}
use Rattle.wsm_machine.proofs.NarrowedFields.{along_fits}
use Rattle.wsm_machine.proofs.ReturnedStacks.{returns_well}
use Rattle.wsm_machine.proofs.Traps.{Pushes, no_trap}

-- ---- the machine and the verifier ask the same of an instruction

same_pops : (kinds : List Kind) (i : Instr) → how_many (pops kinds i) ≡ labels.pops i
same_pops kinds Return = refl
same_pops kinds i = refl

folded_once : (folds : List (Option Value)) (a : ℕ) → folds_twice (Fold a) folds ≡ slice_index_or (map is_some folds) a false
folded_once (f ∷ folds) (suc a) = folded_once folds a
folded_once folds a = refl

same_folds : (i : Instr) (folds : List (Option Value)) → folds_twice i folds ≡ rules.folds_again i (map is_some folds)
same_folds (Fold a) folds = folded_once folds a
same_folds i folds = refl

-- ---- the state after an instruction

small : (l n k : ℕ) → k ≡ l - n → nat_lt l n ≡ false → nat_lt (32 + n) (l + 1) ≡ false → nat_lt 31 k ≡ false
small l n k e f g = grind arith

room_for : (n : ℕ) (vs : List Known) (push : Option Cell) (ks : List Known) (xs : List Cell) → FitsPushed vs push → length xs ≡ length ks → nat_lt (length ks) n ≡ false
    → nat_lt (32 + n) (length ks + length vs) ≡ false → has_no_room (drop n xs) push ≡ false
room_for n [] None ks xs h l e f = refl
room_for n (v ∷ []) (Some x) ks xs h l e f = small (length ks) n (length (drop n xs)) (length-drop n xs ∙ ap (λ k. k - n) l) e f
room_for n vs push ks xs h l e f = absurd h

push_fits : (vs : List Known) (push : Option Cell) (ks : List Known) (xs : List Cell) → FitsPushed vs push → FitsAll ks xs → FitsAll (vs ++ ks) (push_on push xs)
push_fits [] None ks xs h g = g
push_fits (v ∷ []) (Some x) ks xs h g = (h, g)
push_fits vs push ks xs h g = absurd h

flags_after : (i : Instr) (xs : List Cell) (folds : List (Option Value)) → nat_lt (length xs) (labels.pops i) ≡ false
    → labels.folded_after i (map is_some folds) ≡ map is_some (with_fold i xs folds)
flags_after (Fold a) [] folds e = absurd (true≢false e)
flags_after (Fold a) (x ∷ xs) folds e = sym (map-set is_some folds a (Some (value_of x)))
flags_after i xs folds e = refl

-- ---- returns

abbrev returns : Instr → Bool
returns Return = true
returns _ = false

return_or : (i : Instr) → (i ≡ Return) ⊎ ((i ≡ Return → ⊥) × ((x : Setting) (m : State) → taken x m i ≡ Goes (after x m i)))
return_or Return = inl refl
return_or i = inr ((λ e. no (ap returns e)), (λ x m. refl))

returned : (p : Program) (c : SectionId) (d : Inputs) (i : Instr) (s : labels.State) (m : State) → rules.types_fit p.header.kinds (rules.results p c) i s.stack ≡ true → rules.fold_missing c i s.folded ≡ false
    → FitsState c d s m → returns_badly (setting p c d) i m ≡ false
returned p c d Return s m t f h = ap not (returns_well p c d s m t f h)
returned p c d i s m t f h = refl

-- ---- the step

abbrev state_with : Instr → labels.State → List Known → labels.State
state_with i s vs = record s { stack = vs ++ drop (labels.pops i) s.stack; folded = labels.folded_after i s.folded }

module _ (p : Program) (c : SectionId) (r : labels.Ranges) (d : Inputs) (i : Instr) (s : labels.State) (m : State) where
  given : Passes (rules.setting p c r) m.place i s → FitsState c d s m → ReadsFit r s.fields d i → Gives r d p.header.kinds s i s.stack m.stack
  given h f g = gives r d p.header.kinds s (rules.results p c) i s.stack m.stack (not-false _ h.types) h.divides h.has_interval g f.values

  tall : Passes (rules.setting p c r) m.place i s → FitsState c d s m → nat_lt (length m.stack) (labels.pops i) ≡ false
  tall h f = ap (λ n. nat_lt n (labels.pops i)) (length_fits s.stack m.stack f.values) ∙ h.enough

  pushes : Passes (rules.setting p c r) m.place i s → FitsState c d s m → Gives r d p.header.kinds s i s.stack m.stack → Pushes (setting p c d) m i
  pushes h f g = record {
    computes = record {
      reads = record {
        stands = not-false _ h.stands;
        enough = ap (nat_lt (length m.stack)) (same_pops p.header.kinds i) ∙ tall h f;
        types = g.types;
      };
      once = same_folds i m.folds ∙ ap (rules.folds_again i) (sym f.flags) ∙ h.folds_once;
      divides = g.divides;
    };
    fits = g.fits;
    room = ap (λ n. has_no_room (drop n m.stack) (pushed d i m.stack)) (same_pops p.header.kinds i)
        ∙ room_for (labels.pops i) g.vs (pushed d i m.stack) s.stack m.stack g.values (length_fits s.stack m.stack f.values) h.enough
        (ap (λ o. rules.overflows s.stack o (labels.pops i)) (sym g.known) ∙ h.has_room);
  }

  after_is : (g : Gives r d p.header.kinds s i s.stack m.stack) → labels.after r i s ≡ Some (state_with i s g.vs)
  after_is g = ap (option_map (state_with i s)) g.known

  after_fits : Passes (rules.setting p c r) m.place i s → FitsState c d s m → (g : Gives r d p.header.kinds s i s.stack m.stack) → FitsState c d (state_with i s g.vs) (after (setting p c d) m i)
  after_fits h f g = record {
    values = subst (λ n. FitsAll (g.vs ++ drop (labels.pops i) s.stack) (push_on (pushed d i m.stack) (drop n m.stack))) (sym (same_pops p.header.kinds i))
        (push_fits g.vs (pushed d i m.stack) (drop (labels.pops i) s.stack) (drop (labels.pops i) m.stack) g.values (drop_fits (labels.pops i) s.stack m.stack f.values));
    flags = ap (labels.folded_after i) f.flags ∙ flags_after i m.stack m.folds (tall h f);
    fields = f.fields;
  }

  -- no trap holds
  pub no_trap_holds : Passes (rules.setting p c r) m.place i s → FitsState c d s m → ReadsFit r s.fields d i → step (setting p c d) m i ≡ taken (setting p c d) m i
  no_trap_holds h f g =
      no_trap (setting p c d) m i (pushes h f (given h f g)) (jumps_well d (section p c) m.place i m.stack h.jumps) (returned p c d i s m (not-false _ h.types) h.all_folded f)

  -- the edges of the instruction carry a state
  pub has_after : Passes (rules.setting p c r) m.place i s → (t : labels.State) × (labels.after r i s ≡ Some t)
  has_after h = carried (labels.pushed r i s) refl h.has_interval
    where
      carried : (o : Option (List Known)) → labels.pushed r i s ≡ o → is_none o ≡ false → (t : labels.State) × (labels.after r i s ≡ Some t)
      carried None e n = absurd (true≢false n)
      carried (Some vs) e n = (state_with i s vs, ap (option_map (state_with i s)) e)

  goes_on : m.place < length (section p c) → Passes (rules.setting p c r) m.place i s → FitsState c d s m → ReadsFit r s.fields d i → (i ≡ Return → ⊥)
      → taken (setting p c d) m i ≡ Goes (after (setting p c d) m i) → GoesOn p c r d i s m (after (setting p c d) m i)
  goes_on l h f g e k =
      let there = leads_on d (length (section p c)) m.place i m.stack l h.jumps h.ends e in
      let gv = given h f g in
      record {
        goes = no_trap_holds h f g ∙ k;
        edge = there.edge;
        inside = there.inside;
        fits = λ t a. along_fits c d i m.stack m.place t (after (setting p c d) m i) refl
            (subst (λ u. FitsState c d u (after (setting p c d) m i)) (same_Some (state_with i s gv.vs) t (sym (after_is gv) ∙ a)) (after_fits h f gv));
      }

  -- a return ends, and any other instruction goes on to a state that fits
  pub step_fits : m.place < length (section p c) → Passes (rules.setting p c r) m.place i s → FitsState c d s m → ReadsFit r s.fields d i → Moves p c r d i s m
  step_fits l h f g =
      elim (return_or i) [
        | inl e ↦ inl (e, no_trap_holds h f g ∙ ap (taken (setting p c d) m) e)
        | inr e ↦ inr (after (setting p c d) m i, goes_on l h f g e.0 (e.1 (setting p c d) m))
      ]
