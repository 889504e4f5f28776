-- What a decoder that answers what reading gives has found.
use Rattle.std.proofs.Common.{◌≡◌, ℕ, true, List, Result, Ok, Err, IfOk, sym, ap, subst, ◌∙◌}
use Rattle.wsm_program.specs.declared.refusal.DecodeRefusal.{DecodeRefusal}
use Rattle.wsm_program.specs.Program.{Program, is_program}
use Rattle.wsm_bytecode.specs.Spelling.{IsSpelling}
use Rattle.wsm_bytecode.specs.Reading.{Gives, decode}
use Rattle.wsm_bytecode.proofs.Coded.{IsBytes, ok_is}
use Rattle.wsm_bytecode.proofs.CodedProgram.{decode_is, decode_again}

-- the bytes are a spelling of the program
pub spelled_so : (bytes : List ℕ) (r : Result Program DecodeRefusal) → IsBytes bytes → Gives (λ p. p) r (decode bytes) → IfOk r (λ p. IsSpelling p bytes)
spelled_so bytes (Ok p) fits h = decode_is bytes p fits h
spelled_so bytes (Err e) fits h = tt

-- a spelling of a program is read as that program
decoded : (bytes : List ℕ) (p : Program) → is_program p ≡ true → IsSpelling p bytes → decode bytes ≡ Ok p
decoded bytes p good s = ap decode s.spelled ∙ decode_again s.version p good s.spells

pub read_so : (bytes : List ℕ) (r : Result Program DecodeRefusal) → Gives (λ p. p) r (decode bytes) → (p : Program) → is_program p ≡ true → IsSpelling p bytes → Gives (λ q. q) r (Ok p)
read_so bytes r h p good s = subst (λ read. Gives (λ q. q) r read) (decoded bytes p good s) h

-- bytes spell one program
pub one_program : (p q : Program) (bytes : List ℕ) → is_program p ≡ true → is_program q ≡ true → IsSpelling p bytes → IsSpelling q bytes → p ≡ q
one_program p q bytes good other s t = ok_is p q (sym (decoded bytes p good s) ∙ decoded bytes q other t)
