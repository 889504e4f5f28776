-- What is told of `clap`'s error.
use Rattle.std.proofs.Common.{◌≡◌, inl, inr, subst, sym}
use Rattle.clap.specs.Words.{HasKind, IsAmong, Kinds, kind_of}
use Rattle.clap.specs.declared.error.Error.{Error}
use Rattle.clap.specs.declared.error.kind.ErrorKind.TheVariants.{OutOfMemory}
use Rattle.wsm_words.specs.declared.refusal.WordsRefusal.{WordsRefusal}
use Rattle.wsm_words.specs.declared.refusal.WordsRefusal.TheVariants.{Words, Memory}
use Rattle.wsm_words.specs.Words.{IsByFault, IsMemory, Tells}

-- want of memory is told as such
pub told_memory : (e : Error) (refusal : WordsRefusal) → Tells e refusal → kind_of e ≡ OutOfMemory → IsMemory refusal
told_memory e (Words told) tells memory = absurd (tells.1 memory)
told_memory e Memory tells memory = tt

-- an error that has one of the kinds
pub told_fault : (faults : Kinds) (e : Error) (refusal : WordsRefusal) → Tells e refusal → HasKind faults e → IsByFault faults refusal
told_fault faults e (Words told) tells (inl memory) = absurd (tells.1 memory)
told_fault faults e (Words told) tells (inr among) = subst (λ (x : Error). IsAmong (kind_of x) faults) (sym tells.0) among
told_fault faults e Memory tells has = tt
