-- What is known of an entry by its number of arguments holds of it for the compound.
use Rattle.std.proofs.Common.{ℕ, ◌≡◌, List, [], ◌∷◌, length, map, slice_get, Some, Result, Ok, Err, IfOk, refl, ap, sym, ◌∙◌, arith}
use Rattle.term_meaning.specs.Plain.{Plain, compound, plains, items}
use Rattle.aq_term.specs.PlainOf.{plain}
use Rattle.aq_term.specs.declared.term.Term.{Term}
use Rattle.aq_term.specs.declared.entry.Entry.{Entry}
use Rattle.source_program.specs.declared.query_entry.EntryFault.{EntryFault}
use Rattle.source_program.specs.EntryFor.{IsEntryFor}

count_of : (xs : List Term) → length (items (plains (map plain xs))) ≡ length xs
count_of [] = refl
count_of (x ∷ xs) = omega (arith, count_of xs)

count_as : (xs : List Term) (ts : List Plain) → map plain xs ≡ ts → length (items (plains ts)) ≡ length xs
count_as xs ts e = ap (λ (us : List Plain). length (items (plains us))) (sym e) ∙ count_of xs

pub entry_of_compound : (r : Result ℕ EntryFault) (es : List Entry) (name : ℕ) (xs : List Term) (ts : List Plain) →
    map plain xs ≡ ts →
    IfOk r (λ place. (e : Entry) × (slice_get es place ≡ Some e) × (name ≡ e.name.number) × (length xs ≡ e.arity)) →
    IfOk r (λ place. (e : Entry) × (slice_get es place ≡ Some e) × IsEntryFor (compound name (plains ts)) e)
entry_of_compound (Ok place) es name xs ts same h = (h.0, h.1, (h.2, count_as xs ts same ∙ h.3))
entry_of_compound (Err f) es name xs ts same h = tt

pub no_entry_of_compound : (e : Entry) (name : ℕ) (xs : List Term) (ts : List Plain) → map plain xs ≡ ts →
    ((name ≡ e.name.number) × (length xs ≡ e.arity) → ⊥) → IsEntryFor (compound name (plains ts)) e → ⊥
no_entry_of_compound e name xs ts same h is = h (is.0, sym (count_as xs ts same) ∙ is.1)
