-- One signature more in a table.
use Rattle.std.proofs.Common.{◌≡◌, ℕ, ◌+◌, cond, List, ◌∷◌, drop, map, Option, Some}
use Rattle.aq_term.specs.declared.proc_name.ProcName.{ProcName}
use Rattle.bam_code.specs.declared.procedure.Proc.{Proc}
use Rattle.bam_code.specs.declared.signature.Signature.{Signature}
use Rattle.bam_types.specs.Callees.{last_of, same_name, signature_of}

pub next_import : (imports : List Signature) (i : ℕ) (import_ : Signature) (name : ProcName) (before found whole : Option ℕ) → drop i imports ≡ import_ ∷ drop (i + 1) imports → found ≡ cond (same_name import_.name name) (Some i) before → last_of (drop i imports) name i before ≡ whole → last_of (drop (i + 1) imports) name (i + 1) found ≡ whole
next_import imports i import_ name before found whole from is was = rw is (rw from at was)

pub next_proc : (procs : List Proc) (i : ℕ) (proc : Proc) (name : ProcName) (before found whole : Option ℕ) → drop i procs ≡ proc ∷ drop (i + 1) procs → found ≡ cond (same_name proc.signature.name name) (Some i) before → last_of (map signature_of (drop i procs)) name i before ≡ whole → last_of (map signature_of (drop (i + 1) procs)) name (i + 1) found ≡ whole
next_proc procs i proc name before found whole from is was = rw is (rw from at was)
