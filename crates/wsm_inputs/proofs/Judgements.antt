-- How reading, checking and decoding judge, and how the code ends by it.
use Rattle.std.proofs.Common.{◌≡◌, ◌∙◌, ℕ, List, Option, Some, None, Result, Ok, Err, ◌⊎◌, inl, inr, refl, ap, subst}
use Rattle.wsm_tokens.specs.declared.fault.ParseRefusal.{ParseRefusal}
use Rattle.wsm_tokens.specs.declared.fault.ParseRefusal.TheVariants as parsing
use Rattle.wsm_query.specs.Tree.{Query}
use Rattle.wsm_query.specs.Parse.{parse, Refuses}
use Rattle.wsm_check.specs.declared.refusal.CheckRefusal.{CheckRefusal}
use Rattle.wsm_check.specs.declared.refusal.CheckRefusal.TheVariants as checking
use Rattle.wsm_check.specs.Checks.{refusal}
use Rattle.wsm_program.specs.declared.refusal.DecodeRefusal.{DecodeRefusal}
use Rattle.wsm_program.specs.declared.refusal.DecodeRefusal.TheVariants as bytes
use Rattle.wsm_program.specs.Program.{Program}
use Rattle.wsm_bytecode.specs.Reading.{Fails, decode}
use Rattle.wsm_inputs.specs.Ends.{end_of_text, end_of_check, end_of_bytes}
use Rattle.wsm_inputs.specs.declared.end.InputRefusal.{InputRefusal}
use Rattle.wsm_inputs.specs.declared.end.End.{End}
use Rattle.wsm_inputs.specs.declared.end.End.TheVariants as ends
use Rattle.wsm_inputs.specs.Judged.{unless_refused, checked, compiled, text_judged, read_or_refused, bytes_judged, EndsBy}

-- ---- a text

pub text_ends : (text : List ℕ) (why : ParseRefusal) → Refuses why (parse text) → EndsBy (text_judged text) (end_of_text why)
unfolding text_judged
text_ends text (parsing.Text fault position) h = ap checked h
text_ends text parsing.Memory h = tt

pub check_ends : (text : List ℕ) (q : Query) (why : CheckRefusal) → parse text ≡ Ok q → (why ≡ checking.Memory) ⊎ (refusal q ≡ Some why) → EndsBy (text_judged text) (end_of_check why)
unfolding text_judged
check_ends text q checking.Memory read h = tt
check_ends text q (checking.Fault fault part) read (inl h) = cc
check_ends text q (checking.Fault fault part) read (inr h) = ap checked read ∙ ap (λ o. unless_refused o q) h

pub text_passes : (text : List ℕ) (q : Query) → parse text ≡ Ok q → refusal q ≡ None → text_judged text ≡ Ok q
unfolding text_judged
text_passes text q read h = ap checked read ∙ ap (λ o. unless_refused o q) h

no_refusal : (o : Option CheckRefusal) (x q : Query) → unless_refused o x ≡ Ok q → (o ≡ None) × (x ≡ q)
no_refusal None x q h = (refl, ap (λ r. elim r [ Ok y ↦ y | Err f ↦ x ]) h)
no_refusal (Some why) x q h = cc

was_read : (r : Result Query ParseRefusal) (q : Query) → checked r ≡ Ok q → (r ≡ Ok q) × (refusal q ≡ None)
was_read (Ok x) q h = let (none, same) = no_refusal (refusal x) x q h in (ap Ok same, subst (λ y. refusal y ≡ None) same none)
was_read (Err why) q h = cc

-- a query that passed was read, and no check refuses it
pub judged_ok : (text : List ℕ) (q : Query) → text_judged text ≡ Ok q → (parse text ≡ Ok q) × (refusal q ≡ None)
unfolding text_judged
judged_ok text q h = was_read (parse text) q h

-- ---- bytes

by_fault : (read : Result Program DecodeRefusal) (why : DecodeRefusal) → Fails why read → EndsBy (read_or_refused read) (end_of_bytes why)
by_fault read bytes.Memory h = tt
by_fault read bytes.BadMagic h = ap read_or_refused h
by_fault read bytes.Version h = ap read_or_refused h
by_fault read bytes.Truncated h = ap read_or_refused h
by_fault read bytes.UnknownOpcode h = ap read_or_refused h
by_fault read bytes.Operand h = ap read_or_refused h
by_fault read bytes.TrailingBytes h = ap read_or_refused h

pub bytes_end : (spelling : List ℕ) (why : DecodeRefusal) → Fails why (decode spelling) → EndsBy (bytes_judged spelling) (end_of_bytes why)
unfolding bytes_judged
bytes_end spelling why h = by_fault (decode spelling) why h

pub bytes_pass : (spelling : List ℕ) (p : Program) → decode spelling ≡ Ok p → bytes_judged spelling ≡ Ok p
unfolding bytes_judged
bytes_pass spelling p h = ap read_or_refused h

-- what ends the reading of a query ends that of its program
pub compiled_ends : (judged : Result Query InputRefusal) (e : End) → EndsBy judged e → EndsBy (compiled judged) e
compiled_ends judged (ends.Refused why) h = ap compiled h
compiled_ends judged (ends.Rejected why) h = absurd h
compiled_ends judged ends.Memory h = tt
compiled_ends judged ends.ReadFailed h = absurd h
compiled_ends judged ends.WriteFailed h = absurd h
