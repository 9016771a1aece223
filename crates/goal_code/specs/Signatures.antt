-- The signatures of the procedures of a program, by the facts of its predicates.
use Rattle.std.specs.Prelude.{cond, ℕ, ◌+◌, min, nat_eq, List, [], ◌∷◌, ◌++◌, Option, None, Some}
use Rattle.std.specs.Borrow.{Bor}
use Rattle.std.specs.List.{list_any}
use Rattle.bam_code.specs.declared.arg_type.ArgType.{ArgType}
use Rattle.bam_code.specs.declared.arg_type.ArgType.TheVariants as arg
use Rattle.bam_code.specs.declared.procedure.Proc.{Proc}
use Rattle.bam_code.specs.declared.result_type.ResultType.{ResultType}
use Rattle.bam_code.specs.declared.result_type.ResultType.TheVariants as filled
use Rattle.bam_code.specs.declared.signature.Signature.{Signature}
use Rattle.flow_equations.specs.declared.predicate_facts.PredicateFacts.{PredicateFacts}
use Rattle.goal_code.specs.TypesOf.{result_type, type_of_argument}
use Rattle.kernel_ir.specs.declared.kernel_predicate.KernelPredicate.{KernelPredicate}
use Rattle.type_lattice.specs.declared.fact.Fact.{Fact}
use Rattle.type_lattice.specs.declared.fact.Fact.TheVariants as fact

-- of the argument of this number, where those that are results are listed
abbrev pub argument_type : List ℕ → ℕ → Fact → ArgType
argument_type outs number call = cond (list_any (λ listed. nat_eq listed (min number 255)) outs) arg.Out (type_of_argument call)

-- of the arguments from this number on
abbrev pub argument_types_from : List ℕ → ℕ → List Fact → List ArgType
argument_types_from outs number [] = []
argument_types_from outs number (call ∷ calls) = argument_type outs number call ∷ argument_types_from outs (number + 1) calls

abbrev pub argument_types : List ℕ → List Fact → List ArgType
argument_types outs calls = argument_types_from outs 0 calls

-- anything is so of an argument past the end of the facts
abbrev pub success_by : Option (Bor Fact) → Fact
success_by None = fact.Any
success_by (Some success) = success.now

abbrev pub result_types : List ArgType → List Fact → List ResultType
result_types [] successes = []
result_types (a ∷ rest) [] = result_type a fact.Any ∷ result_types rest []
result_types (a ∷ rest) (success ∷ successes) = result_type a success ∷ result_types rest successes

-- a barrier comes last
abbrev pub signature_due : KernelPredicate → PredicateFacts → List ℕ → Signature
signature_due p f outs = record {
  name = p.name;
  args = cond p.barrier (argument_types outs f.call ++ arg.Bar ∷ []) (argument_types outs f.call);
  results = cond p.barrier (result_types (argument_types outs f.call) f.success ++ filled.Bar ∷ []) (result_types (argument_types outs f.call) f.success);
}

-- what a reference leads to
abbrev pub led_to : {X : Type 0} → Option (Bor X) → Option X
led_to None = None
led_to (Some x) = Some x.now

-- that of a predicate by its facts and its results, where it is reached
abbrev pub signature_at : KernelPredicate → Option PredicateFacts → Option (List ℕ) → List Signature
signature_at p None outs = []
signature_at p (Some f) None = []
signature_at p (Some f) (Some outs) = cond f.reached (signature_due p f outs ∷ []) []

-- those of the predicates that are reached, in their order
abbrev pub signatures_due : List KernelPredicate → List PredicateFacts → List (List ℕ) → List Signature
signatures_due [] fs os = []
signatures_due (p ∷ ps) [] os = []
signatures_due (p ∷ ps) (f ∷ fs) [] = []
signatures_due (p ∷ ps) (f ∷ fs) (o ∷ os) = signature_at p (Some f) (Some o) ++ signatures_due ps fs os

abbrev pub signature_of : Proc → Signature
signature_of proc = proc.signature
