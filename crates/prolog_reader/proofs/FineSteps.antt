-- Each step of the machine keeps what is built fine, and takes one word more.
use Rattle.std.proofs.Common.{◌≡◌, ℕ, ◌+◌, ◌-◌, ◌<◌, ◌≤◌, Bool, true, false, cond, nat_lt, nat_le, List, [], ◌∷◌, length, Option, Some, None, is_some, refl, sym, ap, ◌∙◌, subst, arith, pos, neg_ℤ}
use Rattle.std.specs.Prelude.{All}
use Rattle.std.specs.List.{AllByRecursion}
use Rattle.std.proofs.lemmas.List.Elements.{recursion_from_All}
use Rattle.std.specs.Option.{option_and_then}
use Rattle.aq_term.specs.PlainOf.{plain}
use Rattle.aq_term.specs.declared.atom.Atom.{Atom}
use Rattle.aq_term.specs.declared.term.Term.TheVariants as term
use Rattle.prolog_reader.specs.declared.symbol.Symbol.{Symbol}
use Rattle.prolog_reader.specs.declared.symbol.InfixLimits.{InfixLimits}
use Rattle.prolog_reader.specs.declared.symbol.PrefixLimits.{PrefixLimits}
use Rattle.prolog_reader.specs.declared.word.Word.{Word}
use Rattle.prolog_reader.specs.declared.word.Word.TheVariants as word
use Rattle.prolog_reader.specs.declared.built.TermFault.TheVariants as fault
use Rattle.prolog_reader.specs.declared.built.Built.{Built}
use Rattle.prolog_reader.specs.declared.built.Built.TheVariants.{Whole, Faulty}
use Rattle.prolog_reader.specs.declared.frame.Frame.{Frame}
use Rattle.prolog_reader.specs.declared.frame.Frame.TheVariants as frame
use Rattle.prolog_reader.specs.declared.operand.Operand.{Operand}
use Rattle.prolog_reader.specs.declared.machine.State.{State}
use Rattle.prolog_reader.specs.declared.machine.State.TheVariants as state
use Rattle.prolog_reader.specs.declared.enclosed.Enclosed.{Enclosed}
use Rattle.prolog_reader.specs.Words.{IsBelow, next_begins, infix_symbol}
use Rattle.prolog_reader.specs.Terms.{simple, unary, binary, nil_name, curly_name}
use Rattle.prolog_reader.specs.Values.{no_row, with_argument, with_element, compound_of, list_of}
use Rattle.prolog_reader.specs.Machine.{Made, Begun, most_of, closed, enclose_of, fits, infix_frame, begun, positive, negative, signed, atom_of, applied, applied_or, named, is_close_list, is_close_curly, skipped, due, after_closed, round, square, curly, bar, separated, is_comma, settled, infix_or, infix_of, ended, after, step, first_of, run, whole, finished, read_of}
use Rattle.prolog_reader.proofs.FineTerms.{Fine, FineTerm, Fine-more, simple_fine, unary_fine, binary_fine}
use Rattle.prolog_reader.proofs.FineRows.{FineArguments, FineElements, no_arguments_fine, no_elements_fine, with_argument_fine, compound_fine, with_element_fine, list_fine}

-- a frame that took at most k words
abbrev pub FineFrame : ℕ → ℕ → Frame → Type 0
FineFrame n k (frame.Infix name p m left) = (i : ℕ) × Fine n i left × (i + 1 ≤ k)
FineFrame n k (frame.Prefix name p m) = 1 ≤ k
FineFrame n k frame.Brackets = 1 ≤ k
FineFrame n k frame.Curly = 1 ≤ k
FineFrame n k (frame.Arguments name r) = (i : ℕ) × FineArguments n i r × (i + 1 ≤ k)
FineFrame n k (frame.Elements r) = (i : ℕ) × FineElements n i r × (i + 1 ≤ k)
FineFrame n k (frame.Tail r) = (i : ℕ) × FineElements n i r × (i + 1 ≤ k)

-- frames that took at most k words together
abbrev pub FineStack : ℕ → ℕ → List Frame → Type 0
FineStack n k [] = Unit {0}
FineStack n k (f ∷ fs) = (i : ℕ) × (j : ℕ) × FineFrame n i f × FineStack n j fs × (i + j ≤ k)

abbrev pub FineState : ℕ → ℕ → State → Type 0
FineState n k state.Due = Unit {0}
FineState n k (state.After o) = Fine n k o.built
FineState n k (state.Skip o) = Fine n k o.built
FineState n k state.Bracket = Unit {0}

-- a state and a stack that took at most k words together
abbrev pub FineBoth : ℕ → ℕ → State × List Frame → Type 0
FineBoth n k (s, fs) = (i : ℕ) × (j : ℕ) × FineState n i s × FineStack n j fs × (i + j ≤ k)

abbrev pub FineMade : ℕ → ℕ → Made → Type 0
FineMade n k None = Unit {0}
FineMade n k (Some both) = FineBoth n k both

abbrev pub FineFrameOf : ℕ → ℕ → Option Frame → Type 0
FineFrameOf n k None = Unit {0}
FineFrameOf n k (Some f) = FineFrame n k f

-- a term that ends where it stands, with its frame and the stack below
abbrev pub FineEnclosed : ℕ → ℕ → Enclosed × List Frame → Type 0
FineEnclosed n k (e, fs) = (h : ℕ) × (i : ℕ) × (j : ℕ) × FineFrameOf n h e.frame × Fine n i e.built × FineStack n j fs × (h + i + j ≤ k)

pub FineStack-more : (n j k : ℕ) (fs : List Frame) → j ≤ k → FineStack n j fs → FineStack n k fs
FineStack-more n j k [] le h = tt
FineStack-more n j k (f ∷ fs) le h = (h.0, h.1, h.2, h.3, omega (arith, h.4))

pub enclose_fine : (n i j k : ℕ) (fs : List Frame) (b : Built) → i + j ≤ k → Fine n i b → FineStack n j fs → FineEnclosed n k (enclose_of fs b)
enclose_fine n i j k [] b le one fine = (0, i, j, tt, one, tt, omega arith)
enclose_fine n i j k (frame.Infix name p m left ∷ fs) b le one fine =
    enclose_fine n (fine.2.0 + i + 1) fine.1 k fs (binary name left b) (omega (arith, fine.4, fine.2.2)) (binary_fine n fine.2.0 i (fine.2.0 + i + 1) name left b (omega arith) fine.2.1 one) fine.3
enclose_fine n i j k (frame.Prefix name p m ∷ fs) b le one fine =
    enclose_fine n (i + 1) fine.1 k fs (unary name b) (omega (arith, fine.4, fine.2)) (unary_fine n i name b one) fine.3
enclose_fine n i j k (frame.Brackets ∷ fs) b le one fine = (fine.0, i, fine.1, fine.2, one, fine.3, omega (arith, fine.4))
enclose_fine n i j k (frame.Curly ∷ fs) b le one fine = (fine.0, i, fine.1, fine.2, one, fine.3, omega (arith, fine.4))
enclose_fine n i j k (frame.Arguments name r ∷ fs) b le one fine = (fine.0, i, fine.1, fine.2, one, fine.3, omega (arith, fine.4))
enclose_fine n i j k (frame.Elements r ∷ fs) b le one fine = (fine.0, i, fine.1, fine.2, one, fine.3, omega (arith, fine.4))
enclose_fine n i j k (frame.Tail r ∷ fs) b le one fine = (fine.0, i, fine.1, fine.2, one, fine.3, omega (arith, fine.4))

abbrev FineBegun : ℕ → ℕ → Begun → Type 0
FineBegun n k (None, fs) = FineStack n (k + 1) fs
FineBegun n k (Some e, fs) = FineEnclosed n k (e, fs)

begun_if : (n k : ℕ) (b : Bool) (x y : Begun) → FineBegun n k x → FineBegun n k y → FineBegun n k (cond b x y)
begun_if n k true x y p q = p
begun_if n k false x y p q = q

made_if : (n k : ℕ) (b : Bool) (x y : Made) → FineMade n k x → FineMade n k y → FineMade n k (cond b x y)
made_if n k true x y p q = p
made_if n k false x y p q = q

built_if : (n k : ℕ) (b : Bool) (x y : Built) → Fine n k x → Fine n k y → Fine n k (cond b x y)
built_if n k true x y p q = p
built_if n k false x y p q = q

begun_fine : (n i j k : ℕ) (a : Atom) (l : InfixLimits) (left : ℕ) (fs : List Frame) (b : Built) → i + j ≤ k → Fine n i b → FineStack n j fs → FineBegun n k (begun a l left fs b)
begun_fine n i j k a l left [] b le one fine =
    begun_if n k (fits l left 1200) _ _ (i + 1, 0, (i, one, omega arith), tt, omega arith) (0, i, j, tt, one, tt, omega arith)
begun_fine n i j k a l left (frame.Infix name p m other ∷ fs) b le one fine =
    begun_if n k (fits l left m) _ _ (i + 1, j, (i, one, omega arith), fine, omega arith) (begun_fine n (fine.2.0 + i + 1) fine.1 k a l p fs (binary name other b) (omega (arith, fine.4, fine.2.2)) (binary_fine n fine.2.0 i (fine.2.0 + i + 1) name other b (omega arith) fine.2.1 one) fine.3)
begun_fine n i j k a l left (frame.Prefix name p m ∷ fs) b le one fine =
    begun_if n k (fits l left m) _ _ (i + 1, j, (i, one, omega arith), fine, omega arith) (begun_fine n (i + 1) fine.1 k a l p fs (unary name b) (omega (arith, fine.4, fine.2)) (unary_fine n i name b one) fine.3)
begun_fine n i j k a l left (frame.Brackets ∷ fs) b le one fine =
    begun_if n k (fits l left 1200) _ _ (i + 1, j, (i, one, omega arith), fine, omega arith) (fine.0, i, fine.1, fine.2, one, fine.3, omega (arith, fine.4))
begun_fine n i j k a l left (frame.Curly ∷ fs) b le one fine =
    begun_if n k (fits l left 1200) _ _ (i + 1, j, (i, one, omega arith), fine, omega arith) (fine.0, i, fine.1, fine.2, one, fine.3, omega (arith, fine.4))
begun_fine n i j k a l left (frame.Arguments name r ∷ fs) b le one fine =
    begun_if n k (fits l left 999) _ _ (i + 1, j, (i, one, omega arith), fine, omega arith) (fine.0, i, fine.1, fine.2, one, fine.3, omega (arith, fine.4))
begun_fine n i j k a l left (frame.Elements r ∷ fs) b le one fine =
    begun_if n k (fits l left 999) _ _ (i + 1, j, (i, one, omega arith), fine, omega arith) (fine.0, i, fine.1, fine.2, one, fine.3, omega (arith, fine.4))
begun_fine n i j k a l left (frame.Tail r ∷ fs) b le one fine =
    begun_if n k (fits l left 999) _ _ (i + 1, j, (i, one, omega arith), fine, omega arith) (fine.0, i, fine.1, fine.2, one, fine.3, omega (arith, fine.4))

-- a word that is a term by itself
alone_fine : (n k : ℕ) (b : Built) (fs : List Frame) → Fine n 1 b → FineStack n k fs → FineBoth n (k + 1) (state.After (closed b), fs)
alone_fine n k b fs one fine = (1, k, one, fine, omega arith)

skip_fine : (n k : ℕ) (b : Built) (fs : List Frame) → Fine n 1 b → FineStack n k fs → FineBoth n (k + 1) (state.Skip (closed b), fs)
skip_fine n k b fs one fine = (1, k, one, fine, omega arith)

positive_fine : (n v : ℕ) → Fine n 1 (positive v)
positive_fine n v = built_if n 1 (nat_le v 9223372036854775807) _ _ (simple_fine n 1 (term.Int (pos v)) tt (omega arith) (omega arith)) tt

negative_fine : (n v : ℕ) → Fine n 1 (negative v)
negative_fine n v = built_if n 1 (nat_le v 9223372036854775808) _ _ (simple_fine n 1 (term.Int (neg_ℤ (pos v))) tt (omega arith) (omega arith)) tt

atom_fine : (n : ℕ) (a : Atom) → Fine n 1 (simple (term.Atom a))
atom_fine n a = simple_fine n 1 (term.Atom a) tt (omega arith) (omega arith)

signed_fine : (n k : ℕ) (next : Option Word) (fs : List Frame) → FineStack n k fs → FineMade n (k + 1) (signed next fs)
signed_fine n k None fs fine = tt
signed_fine n k (Some (word.Integer v)) fs fine = skip_fine n k (negative v) fs (negative_fine n v) fine
signed_fine n k (Some word.WideInteger) fs fine = skip_fine n k (Faulty fault.IntRange) fs tt fine
signed_fine n k (Some (word.Name s)) fs fine = tt
signed_fine n k (Some (word.Sign s)) fs fine = tt
signed_fine n k (Some (word.Functor s)) fs fine = tt
signed_fine n k (Some (word.Variable v)) fs fine = tt
signed_fine n k (Some word.Open) fs fine = tt
signed_fine n k (Some word.Close) fs fine = tt
signed_fine n k (Some word.OpenList) fs fine = tt
signed_fine n k (Some word.CloseList) fs fine = tt
signed_fine n k (Some word.OpenCurly) fs fine = tt
signed_fine n k (Some word.CloseCurly) fs fine = tt
signed_fine n k (Some (word.Comma s)) fs fine = tt
signed_fine n k (Some word.Bar) fs fine = tt
signed_fine n k (Some word.End) fs fine = tt

named_fine : (n k : ℕ) (s : Symbol) (next : Option Word) (fs : List Frame) → FineStack n k fs → FineMade n (k + 1) (named s next fs)
named_fine n k s next fs fine = made_if n (k + 1) (next_begins next) _ _ (by_prefix s.prefix) as_atom
  where
    as_atom : FineMade n (k + 1) (atom_of s.name fs)
    as_atom = alone_fine n k (simple (term.Atom s.name)) fs (atom_fine n s.name) fine

    by_prefix : (p : Option PrefixLimits) → FineMade n (k + 1) (applied_or s p fs)
    by_prefix None = made_if n (k + 1) (is_some s.infix) _ _ tt as_atom
    by_prefix (Some p) = made_if n (k + 1) (nat_lt (most_of fs) p.priority) _ _ tt (0, k + 1, tt, (1, k, omega arith, fine, omega arith), omega arith)

due_fine : (n k : ℕ) (w : Word) (next : Option Word) (fs : List Frame) → IsBelow n w → FineStack n k fs → FineMade n (k + 1) (due w next fs)
due_fine n k (word.Name s) next fs low fine = named_fine n k s next fs fine
due_fine n k (word.Sign s) next fs low fine = signed_fine n k next fs fine
due_fine n k (word.Functor s) next fs low fine = (0, k + 1, tt, (1, k, (0, no_arguments_fine n, omega arith), fine, omega arith), omega arith)
due_fine n k (word.Variable v) next fs low fine = alone_fine n k (simple (term.Var v)) fs (simple_fine n 1 (term.Var v) low (omega arith) (omega arith)) fine
due_fine n k (word.Integer v) next fs low fine = alone_fine n k (positive v) fs (positive_fine n v) fine
due_fine n k word.WideInteger next fs low fine = alone_fine n k (Faulty fault.IntRange) fs tt fine
due_fine n k word.Open next fs low fine = (0, k + 1, tt, (1, k, omega arith, fine, omega arith), omega arith)
due_fine n k word.OpenList next fs low fine =
    made_if n (k + 1) (is_close_list next) _ _ (skip_fine n k (simple (term.Atom nil_name)) fs (atom_fine n nil_name) fine) (0, k + 1, tt, (1, k, (0, no_elements_fine n, omega arith), fine, omega arith), omega arith)
due_fine n k word.OpenCurly next fs low fine =
    made_if n (k + 1) (is_close_curly next) _ _ (skip_fine n k (simple (term.Atom curly_name)) fs (atom_fine n curly_name) fine) (0, k + 1, tt, (1, k, omega arith, fine, omega arith), omega arith)
due_fine n k word.Close next fs low fine = tt
due_fine n k word.CloseList next fs low fine = tt
due_fine n k word.CloseCurly next fs low fine = tt
due_fine n k (word.Comma s) next fs low fine = tt
due_fine n k word.Bar next fs low fine = tt
due_fine n k word.End next fs low fine = tt

-- what closes a term keeps all fine, and takes a word
round_fine : (n h i j k : ℕ) (f : Option Frame) (b : Built) (fs : List Frame) → h + i + j ≤ k → FineFrameOf n h f → Fine n i b → FineStack n j fs → FineMade n (k + 1) (round f b fs)
round_fine n h i j k None b fs le above one fine = tt
round_fine n h i j k (Some (frame.Infix name p m left)) b fs le above one fine = tt
round_fine n h i j k (Some (frame.Prefix name p m)) b fs le above one fine = tt
round_fine n h i j k (Some frame.Brackets) b fs le above one fine = (i, j, one, fine, omega arith)
round_fine n h i j k (Some frame.Curly) b fs le above one fine = tt
round_fine n h i j k (Some (frame.Arguments name r)) b fs le above one fine =
    (h + i, j, compound_fine n (above.0 + i) (h + i) name (with_argument r b) (omega (arith, above.2)) (with_argument_fine n above.0 i (above.0 + i) r b (omega arith) above.1 one), fine, omega arith)
round_fine n h i j k (Some (frame.Elements r)) b fs le above one fine = tt
round_fine n h i j k (Some (frame.Tail r)) b fs le above one fine = tt

square_fine : (n h i j k : ℕ) (f : Option Frame) (b : Built) (fs : List Frame) → h + i + j ≤ k → FineFrameOf n h f → Fine n i b → FineStack n j fs → FineMade n (k + 1) (square f b fs)
square_fine n h i j k None b fs le above one fine = tt
square_fine n h i j k (Some (frame.Infix name p m left)) b fs le above one fine = tt
square_fine n h i j k (Some (frame.Prefix name p m)) b fs le above one fine = tt
square_fine n h i j k (Some frame.Brackets) b fs le above one fine = tt
square_fine n h i j k (Some frame.Curly) b fs le above one fine = tt
square_fine n h i j k (Some (frame.Arguments name r)) b fs le above one fine = tt
square_fine n h i j k (Some (frame.Elements r)) b fs le above one fine =
    (h + i + 1, j, list_fine n (above.0 + i + 1) 1 (h + i + 1) (with_element r b) (simple (term.Atom nil_name)) (omega (arith, above.2)) (with_element_fine n above.0 i (above.0 + i + 1) r b (omega arith) above.1 one) (atom_fine n nil_name), fine, omega arith)
square_fine n h i j k (Some (frame.Tail r)) b fs le above one fine =
    (h + i, j, list_fine n above.0 i (h + i) r b (omega (arith, above.2)) above.1 one, fine, omega arith)

curly_fine : (n h i j k : ℕ) (f : Option Frame) (b : Built) (fs : List Frame) → h + i + j ≤ k → FineFrameOf n h f → Fine n i b → FineStack n j fs → FineMade n (k + 1) (curly f b fs)
curly_fine n h i j k None b fs le above one fine = tt
curly_fine n h i j k (Some (frame.Infix name p m left)) b fs le above one fine = tt
curly_fine n h i j k (Some (frame.Prefix name p m)) b fs le above one fine = tt
curly_fine n h i j k (Some frame.Brackets) b fs le above one fine = tt
curly_fine n h i j k (Some frame.Curly) b fs le above one fine = (i + 1, j, unary_fine n i curly_name b one, fine, omega (arith, above))
curly_fine n h i j k (Some (frame.Arguments name r)) b fs le above one fine = tt
curly_fine n h i j k (Some (frame.Elements r)) b fs le above one fine = tt
curly_fine n h i j k (Some (frame.Tail r)) b fs le above one fine = tt

bar_fine : (n h i j k : ℕ) (f : Option Frame) (b : Built) (fs : List Frame) → h + i + j ≤ k → FineFrameOf n h f → Fine n i b → FineStack n j fs → FineMade n (k + 1) (bar f b fs)
bar_fine n h i j k None b fs le above one fine = tt
bar_fine n h i j k (Some (frame.Infix name p m left)) b fs le above one fine = tt
bar_fine n h i j k (Some (frame.Prefix name p m)) b fs le above one fine = tt
bar_fine n h i j k (Some frame.Brackets) b fs le above one fine = tt
bar_fine n h i j k (Some frame.Curly) b fs le above one fine = tt
bar_fine n h i j k (Some (frame.Arguments name r)) b fs le above one fine = tt
bar_fine n h i j k (Some (frame.Elements r)) b fs le above one fine =
    (0, h + i + 1 + j, tt, (h + i + 1, j, (above.0 + i + 1, with_element_fine n above.0 i (above.0 + i + 1) r b (omega arith) above.1 one, omega (arith, above.2)), fine, omega arith), omega arith)
bar_fine n h i j k (Some (frame.Tail r)) b fs le above one fine = tt

separated_fine : (n h i j k : ℕ) (f : Option Frame) (b : Built) (fs : List Frame) → h + i + j ≤ k → FineFrameOf n h f → Fine n i b → FineStack n j fs → FineMade n (k + 1) (separated f b fs)
separated_fine n h i j k None b fs le above one fine = tt
separated_fine n h i j k (Some (frame.Infix name p m left)) b fs le above one fine = tt
separated_fine n h i j k (Some (frame.Prefix name p m)) b fs le above one fine = tt
separated_fine n h i j k (Some frame.Brackets) b fs le above one fine = tt
separated_fine n h i j k (Some frame.Curly) b fs le above one fine = tt
separated_fine n h i j k (Some (frame.Arguments name r)) b fs le above one fine =
    (0, h + i + j, tt, (h + i, j, (above.0 + i, with_argument_fine n above.0 i (above.0 + i) r b (omega arith) above.1 one, omega (arith, above.2)), fine, omega arith), omega arith)
separated_fine n h i j k (Some (frame.Elements r)) b fs le above one fine =
    (0, h + i + 1 + j, tt, (h + i + 1, j, (above.0 + i + 1, with_element_fine n above.0 i (above.0 + i + 1) r b (omega arith) above.1 one, omega (arith, above.2)), fine, omega arith), omega arith)
separated_fine n h i j k (Some (frame.Tail r)) b fs le above one fine = tt

settled_fine : (n k : ℕ) (w : Word) (x : Begun) → FineBegun n k x → FineMade n (k + 1) (settled w x)
settled_fine n k w (None, fs) fine = (0, k + 1, tt, fine, omega arith)
settled_fine n k w (Some e, fs) fine =
    made_if n (k + 1) (is_comma w) _ _ (separated_fine n fine.0 fine.1 fine.2 k e.frame e.built fs fine.6 fine.3 fine.4 fine.5) tt

infix_fine : (n i j k : ℕ) (w : Word) (s : Symbol) (o : Operand) (fs : List Frame) → i + j ≤ k → Fine n i o.built → FineStack n j fs → FineMade n (k + 1) (infix_or w s s.infix o fs)
infix_fine n i j k w s o fs le one fine = by_limits s.infix
  where
    by_limits : (l : Option InfixLimits) → FineMade n (k + 1) (infix_or w s l o fs)
    by_limits None = tt
    by_limits (Some l) = settled_fine n k w (begun s.name l o.priority fs o.built) (begun_fine n i j k s.name l o.priority fs o.built le one fine)

after_fine : (n i j k : ℕ) (o : Operand) (w : Word) (fs : List Frame) → i + j ≤ k → Fine n i o.built → FineStack n j fs → FineMade n (k + 1) (after o w fs)
after_fine n i j k o word.Close fs le one fine =
    let e = enclose_fine n i j k fs o.built le one fine in
    round_fine n e.0 e.1 e.2 k _ _ _ e.6 e.3 e.4 e.5
after_fine n i j k o word.CloseList fs le one fine =
    let e = enclose_fine n i j k fs o.built le one fine in
    square_fine n e.0 e.1 e.2 k _ _ _ e.6 e.3 e.4 e.5
after_fine n i j k o word.CloseCurly fs le one fine =
    let e = enclose_fine n i j k fs o.built le one fine in
    curly_fine n e.0 e.1 e.2 k _ _ _ e.6 e.3 e.4 e.5
after_fine n i j k o word.Bar fs le one fine =
    let e = enclose_fine n i j k fs o.built le one fine in
    bar_fine n e.0 e.1 e.2 k _ _ _ e.6 e.3 e.4 e.5
after_fine n i j k o (word.Name s) fs le one fine = infix_fine n i j k (word.Name s) s o fs le one fine
after_fine n i j k o (word.Sign s) fs le one fine = infix_fine n i j k (word.Sign s) s o fs le one fine
after_fine n i j k o (word.Functor s) fs le one fine = infix_fine n i j k (word.Functor s) s o fs le one fine
after_fine n i j k o (word.Comma s) fs le one fine = infix_fine n i j k (word.Comma s) s o fs le one fine
after_fine n i j k o (word.Variable v) fs le one fine = tt
after_fine n i j k o (word.Integer v) fs le one fine = tt
after_fine n i j k o word.WideInteger fs le one fine = tt
after_fine n i j k o word.Open fs le one fine = tt
after_fine n i j k o word.OpenList fs le one fine = tt
after_fine n i j k o word.OpenCurly fs le one fine = tt
after_fine n i j k o word.End fs le one fine = tt

step_fine : (n k : ℕ) (s : State) (w : Word) (next : Option Word) (fs : List Frame) → IsBelow n w → FineBoth n k (s, fs) → FineMade n (k + 1) (step s w next fs)
step_fine n k state.Due w next fs low both = due_fine n k w next fs low (FineStack-more n both.1 k fs (omega (arith, both.4)) both.3)
step_fine n k (state.After o) w next fs low both = after_fine n both.0 both.1 k o w fs both.4 both.2 both.3
step_fine n k (state.Skip o) w next fs low both = (both.0, both.1, both.2, both.3, omega (arith, both.4))
step_fine n k state.Bracket w next fs low both = (both.0, both.1, tt, both.3, omega (arith, both.4))

run_fine : (n k : ℕ) (ws : List Word) (s : State) (fs : List Frame) → AllByRecursion (IsBelow n) ws → FineBoth n k (s, fs) → FineMade n (k + length ws) (run ws s fs)
run_fine n k [] s fs low both = (both.0, both.1, both.2, both.3, omega (arith, both.4))
run_fine n k (w ∷ ws) s fs low both =
    by_made (λ t rest fine. run_fine n (k + 1) ws t rest low.1 fine) (step s w (first_of ws) fs) (step_fine n k s w (first_of ws) fs low.0 both)
  where
    by_made : ((t : State) (rest : List Frame) → FineBoth n (k + 1) (t, rest) → FineMade n (k + 1 + length ws) (run ws t rest)) → (made : Made) → FineMade n (k + 1) made → FineMade n (k + length (w ∷ ws)) (option_and_then (λ m. run ws m.0 m.1) made)
    by_made go None fine = tt
    by_made go (Some m) fine =
        let e : k + 1 + length ws ≡ k + length (w ∷ ws) = omega arith in
        subst (λ (h : ℕ). FineMade n h (run ws m.0 m.1)) e (go m.0 m.1 fine)

abbrev FineAnswer : ℕ → ℕ → Option Built → Type 0
FineAnswer n k None = Unit {0}
FineAnswer n k (Some b) = Fine n k b

finished_fine : (n k : ℕ) (both : State × List Frame) → FineBoth n k both → FineAnswer n k (finished both)
finished_fine n k (state.Due, fs) both = tt
finished_fine n k (state.Skip o, fs) both = tt
finished_fine n k (state.Bracket, fs) both = tt
finished_fine n k (state.After o, fs) both = whole_fine (enclose_of fs o.built) (enclose_fine n both.0 both.1 k fs o.built both.4 both.2 both.3)
  where
    chosen : (b : Bool) (x : Built) → Fine n k x → FineAnswer n k (cond b None (Some x))
    chosen true x h = tt
    chosen false x h = h

    whole_fine : (e : Enclosed × List Frame) → FineEnclosed n k e → FineAnswer n k (whole e)
    whole_fine (e, fs) h = chosen (is_some e.frame) e.built (Fine-more n h.1 k e.built (omega (arith, h.6)) h.4)

-- what words are has variables below n where theirs are, and no more nodes than there are words
pub read_fine : (n : ℕ) (ws : List Word) (b : Built) → All (IsBelow n) ws → read_of ws ≡ Some b → Fine n (length ws) b
read_fine n ws b low is = subst (FineAnswer n (length ws)) is (by_made (run ws state.Due []) (run_fine n 0 ws state.Due [] (recursion_from_All (IsBelow n) ws low) (0, 0, tt, tt, omega arith)))
  where
    by_made : (made : Made) → FineMade n (0 + length ws) made → FineAnswer n (length ws) (option_and_then finished made)
    by_made None fine = tt
    by_made (Some both) fine =
        let e : 0 + length ws ≡ length ws = omega arith in
        subst (λ (h : ℕ). FineAnswer n h (finished both)) e (finished_fine n (0 + length ws) both fine)
