-- The fault of a grammar rule and that of the rule that it stands for.
use Rattle.std.proofs.Common.{ℕ, ◌≡◌, Option, List, [], ◌∷◌, Some, None, IsSome, option_and_then, refl, ap}
use Rattle.term_meaning.specs.Plain.{Plain, variable, compound, plains}
use Rattle.aq_base.specs.declared.refusal.FormKind.{FormKind}
use Rattle.dcg_rules.specs.Grammar.{Made, rule, two, derives, IsRule}
use Rattle.dcg_rules.specs.declared.fault.DcgFault.{DcgFault}
use Rattle.dcg_rules.specs.declared.fault.DcgFault.TheVariants as dcg
use Rattle.source_program.specs.FormFault.{fault_of}
use Rattle.source_program.specs.declared.form_fault.FormFault.TheVariants as fault
use Rattle.source_program.specs.ClauseFaults.{translated_fault, clause_fault, grammar_fault, form_fault}
use Rattle.source_program.specs.Arguments.{translated_arguments, clause_arguments}
use Rattle.source_program.specs.Keys.{term_key, clause_key}

-- the clause of a translated head and body
abbrev joined : Option Plain → Option Made → Option Made
joined head body = option_and_then (λ h. option_and_then (λ b. Some (compound rule (two h b.0), b.1)) body) head

abbrev term_of : Option Made → Plain
term_of None = variable 0
term_of (Some m) = m.0

pub fault_of_made : (head : Option Plain) (body : Option Made) (t : Plain) (n : ℕ) → joined head body ≡ Some (t, n) →
    translated_fault head body ≡ clause_fault t
fault_of_made None body t n e = cc
fault_of_made (Some h) None t n e = cc
fault_of_made (Some h) (Some b) t n e =
    let same : compound rule (two h b.0) ≡ t = ap term_of e in
    ap clause_fault same

pub key_of_made : (head : Option Plain) (body : Option Made) (t : Plain) (n : ℕ) → joined head body ≡ Some (t, n) →
    option_and_then term_key head ≡ clause_key t
key_of_made None body t n e = cc
key_of_made (Some h) None t n e = cc
key_of_made (Some h) (Some b) t n e =
    let same : compound rule (two h b.0) ≡ t = ap term_of e in
    ap clause_key same

pub arguments_of_made : (head : Option Plain) (body : Option Made) (t : Plain) (n : ℕ) → joined head body ≡ Some (t, n) →
    translated_arguments head body ≡ clause_arguments t
arguments_of_made None body t n e = cc
arguments_of_made (Some h) None t n e = cc
arguments_of_made (Some h) (Some b) t n e =
    let same : compound rule (two h b.0) ≡ t = ap term_of e in
    ap clause_arguments same

pub fault_of_none : (f : DcgFault) (kind : FormKind) (head : Option Plain) (body : Option Made) →
    (f ≡ dcg.Head → head ≡ None) → (f ≡ dcg.Body → IsSome head × (body ≡ None)) → fault_of f ≡ fault.Form kind →
    translated_fault head body ≡ Some kind
fault_of_none dcg.Head kind head body h b e = rw (h refl) (cc)
fault_of_none dcg.Body kind head body h b e = of_body head body kind (b refl).0 (b refl).1 e
  where
    of_body : (head : Option Plain) (body : Option Made) (kind : FormKind) → IsSome head → body ≡ None →
        fault_of dcg.Body ≡ fault.Form kind → translated_fault head body ≡ Some kind
    of_body None body kind some none e = cc
    of_body (Some h) body kind some none e = rw none (cc)
fault_of_none dcg.Memory kind head body h b e = cc

-- a compound of this name with two arguments is a grammar rule
pub rule_of_two : (n : ℕ) (ts : List Plain) (a b : Plain) → n ≡ derives → ts ≡ a ∷ b ∷ [] → IsRule a b (compound n (plains ts))
rule_of_two n ts a b e f = rw (e, f) refl

pub fault_of_rule : (variables n : ℕ) (ts : List Plain) (a b : Plain) (kind : FormKind) → n ≡ derives → ts ≡ a ∷ b ∷ [] →
    grammar_fault variables a b ≡ Some kind → form_fault variables (compound n (plains ts)) ≡ Some kind
fault_of_rule variables n ts a b kind e f h = rw (e, f) h
