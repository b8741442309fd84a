-- What a reading gives, in the words of the grammar.
use Rattle.std.proofs.Common.{◌≡◌, ℕ, ◌∙◌, sym, subst, true, List, Result, Ok, Err}
use Rattle.std.specs.Prelude.{IfOk, OnOk}
use Rattle.tatp_encoding.specs.Modules.{ModuleState, is_module}
use Rattle.tatp_asm.specs.declared.fault.AsmFault.{AsmFault}
use Rattle.tatp_asm.specs.declared.fault.AsmError.{AsmError}
use Rattle.tatp_asm.specs.Texts.{IsTextOf}
use Rattle.tatp_asm.specs.Reading.{Gives, assembled}
use Rattle.tatp_asm.proofs.Grammar.{assembled_found, assembled_only, ok_is}
use Rattle.std.specs.List.{All}
use Rattle.tatp_encoding.specs.Spelling.{IsInstr}
use Rattle.tatp_asm.specs.Printing.{disassembled}
use Rattle.tatp_asm.proofs.ModuleLaws.{tested, bounded}
use Rattle.tatp_asm.proofs.PrintedText.{disassembled_is}

pub found : {X : Type 0} (view : X → ModuleState) (text : List ℕ) (r : Result X AsmError) → Gives view r (assembled text) → IfOk r (λ x. IsTextOf text (view x))
found view text (Ok x) g = (assembled_found text (view x) g).0
found view text (Err e) g = tt

-- a module is assembled from its text
assembled_whole : (text : List ℕ) (m : ModuleState) → is_module m ≡ true → IsTextOf text m → assembled text ≡ Ok m
assembled_whole text m h t = let k = tested m h in assembled_only text m (bounded m k) k.version t

pub only : {X : Type 0} (view : X → ModuleState) (text : List ℕ) (r : Result X AsmError) → Gives view r (assembled text) → (m : ModuleState) → is_module m ≡ true → IsTextOf text m → Gives view r (Ok m)
only view text r g m h t = subst (λ (a : Result ModuleState AsmFault). Gives view r a) (assembled_whole text m h t) g

-- a text is the text of one module
pub one_module : (text : List ℕ) (m other : ModuleState) → is_module m ≡ true → is_module other ≡ true → IsTextOf text m → IsTextOf text other → other ≡ m
one_module text m other h k t u = ok_is other m (sym (assembled_whole text other k u) ∙ assembled_whole text m h t)

-- ---- what is printed
pub printed_found : {X E : Type 0} (view : X → List ℕ) (r : Result X E) (m : ModuleState) → is_module m ≡ true → OnOk r (All (λ p. All IsInstr p.code) m.procedures) → IfOk r (λ x. view x ≡ disassembled m) → IfOk r (λ x. IsTextOf (view x) m)
printed_found view (Ok x) m h w e = subst (λ (t : List ℕ). IsTextOf t m) (sym e) (disassembled_is m h w)
printed_found view (Err e) m h w t = tt

pub printed_only : {X E : Type 0} (view : X → List ℕ) (r : Result X E) (m : ModuleState) → is_module m ≡ true → IfOk r (λ x. IsTextOf (view x) m)
    → (other : ModuleState) → is_module other ≡ true → IfOk r (λ x. IsTextOf (view x) other → other ≡ m)
printed_only view (Ok x) m h t other k = λ u. one_module (view x) m other h k t u
printed_only view (Err e) m h t other k = tt
