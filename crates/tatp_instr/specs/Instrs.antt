-- The parts of each instruction, and its text.
use Rattle.std.specs.Prelude.{ℕ, List, [], ◌∷◌, ◌++◌, codes, decimal}
use Rattle.tatp_instr.specs.declared.instr.Instr.{Instr}
use Rattle.tatp_instr.specs.declared.instr.Instr.TheVariants.{Ldi, Mov, Arg, Add, Sub, Eq, Lt, Jmp, Jz, Fsub, Fnum, Facc, Ffac, Fcfw, Get, Put, Ins, Del, Out, Done, Fail, Loop}
use Rattle.tatp_instr.specs.declared.instr.Parts.{Parts}

-- an op with these registers and this u32
abbrev pub parts_with : ℕ → ℕ → ℕ → ℕ → ℕ → Parts
parts_with op first second third word = record {
  op = op;
  registers = first ∷ second ∷ third ∷ [];
  word = word;
}

-- an instruction taken apart
abbrev pub parts_of : Instr → Parts
parts_of (Ldi d n) = parts_with 0x01 d 0 0 n
parts_of (Mov d a) = parts_with 0x02 d a 0 0
parts_of (Arg d k) = parts_with 0x03 d 0 0 k
parts_of (Add d a b) = parts_with 0x04 d a b 0
parts_of (Sub d a b) = parts_with 0x05 d a b 0
parts_of (Eq d a b) = parts_with 0x06 d a b 0
parts_of (Lt d a b) = parts_with 0x07 d a b 0
parts_of (Jmp t) = parts_with 0x08 0 0 0 t
parts_of (Jz a t) = parts_with 0x09 a 0 0 t
parts_of (Fsub d a) = parts_with 0x0A d a 0 0
parts_of (Fnum d a) = parts_with 0x0B d a 0 0
parts_of (Facc d a b) = parts_with 0x0C d a b 0
parts_of (Ffac d a b) = parts_with 0x0D d a b 0
parts_of (Fcfw d a) = parts_with 0x0E d a 0 0
parts_of (Get d c) = parts_with 0x0F d 0 0 c
parts_of (Put a c) = parts_with 0x10 a 0 0 c
parts_of (Ins d a) = parts_with 0x11 d a 0 0
parts_of Del = parts_with 0x12 0 0 0 0
parts_of (Out a) = parts_with 0x13 a 0 0 0
parts_of Done = parts_with 0x14 0 0 0 0
parts_of (Fail n) = parts_with 0x15 0 0 0 n
parts_of (Loop a t) = parts_with 0x16 a 0 0 t

-- the text of a register
abbrev pub register_text : ℕ → List ℕ
register_text number = codes "r" ++ decimal number

-- the text of three registers, which commas part
abbrev pub three_registers_text : ℕ → ℕ → ℕ → List ℕ
three_registers_text d a b =
    register_text d ++ codes "," ++ register_text a ++ codes "," ++ register_text b

-- the text of an instruction
abbrev pub text_of : Instr → List ℕ
text_of (Ldi d n) = codes "LDI " ++ register_text d ++ codes ",#" ++ decimal n
text_of (Mov d a) = codes "MOV " ++ register_text d ++ codes "," ++ register_text a
text_of (Arg d k) = codes "ARG " ++ register_text d ++ codes ",#" ++ decimal k
text_of (Add d a b) = codes "ADD " ++ three_registers_text d a b
text_of (Sub d a b) = codes "SUB " ++ three_registers_text d a b
text_of (Eq d a b) = codes "EQ " ++ three_registers_text d a b
text_of (Lt d a b) = codes "LT " ++ three_registers_text d a b
text_of (Jmp t) = codes "JMP @L" ++ decimal t
text_of (Jz a t) = codes "JZ " ++ register_text a ++ codes ",@L" ++ decimal t
text_of (Fsub d a) = codes "FSUB " ++ register_text d ++ codes "," ++ register_text a
text_of (Fnum d a) = codes "FNUM " ++ register_text d ++ codes "," ++ register_text a
text_of (Facc d a b) = codes "FACC " ++ three_registers_text d a b
text_of (Ffac d a b) = codes "FFAC " ++ three_registers_text d a b
text_of (Fcfw d a) = codes "FCFW " ++ register_text d ++ codes "," ++ register_text a
text_of (Get d c) = codes "GET " ++ register_text d ++ codes ",#" ++ decimal c
text_of (Put a c) = codes "PUT #" ++ decimal c ++ codes "," ++ register_text a
text_of (Ins d a) = codes "INS " ++ register_text d ++ codes "," ++ register_text a
text_of Del = codes "DEL"
text_of (Out a) = codes "OUT " ++ register_text a
text_of Done = codes "DONE"
text_of (Fail n) = codes "FAIL #" ++ decimal n
text_of (Loop a t) = codes "LOOP " ++ register_text a ++ codes ",@L" ++ decimal t
