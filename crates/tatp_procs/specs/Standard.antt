-- The standard module: the seven transactions as procedures, in version 2 of the instruction table.
-- docs/FORMATS.md, "The standard module".
use Rattle.std.specs.Prelude.{ℕ, zero, suc, ◌+◌, List, [], ◌∷◌, ◌++◌, codes}
use Rattle.tatp_instr.specs.declared.instr.Instr.{Instr}
use Rattle.tatp_instr.specs.declared.instr.Instr.TheVariants.{Ldi, Mov, Arg, Add, Eq, Lt, Jz, Fsub, Fnum, Facc, Ffac, Fcfw, Get, Put, Ins, Del, Out, Done, Fail, Loop}
use Rattle.tatp_instr.specs.declared.version.Version.TheVariants.{Two}
use Rattle.tatp_encoding.specs.Modules.{Procedure, ModuleState}

-- n columns from c on, each read and put out
abbrev pub columns : ℕ → ℕ → List Instr
columns zero c = []
columns (suc n) c = Get 2 c ∷ Out 2 ∷ columns n (c + 1)

-- none: 72
abbrev pub get_subscriber_data_code : List Instr
get_subscriber_data_code = Arg 0 0 ∷ Fsub 1 0 ∷ Jz 1 72 ∷ columns 34 0 ++ Done ∷ Fail 1 ∷ []

-- next: 12, skip: 22, none: 26
abbrev pub get_new_destination_code : List Instr
get_new_destination_code =
    Arg 0 0 ∷ Arg 1 1 ∷ Arg 5 2 ∷ Arg 6 3
    ∷ Ffac 7 0 1 ∷ Jz 7 26 ∷ Get 7 42 ∷ Jz 7 26 ∷ Ldi 4 1 ∷ Add 5 5 4
    ∷ Ldi 3 8 ∷ Ldi 10 2
    ∷ Fcfw 7 0 ∷ Jz 7 22 ∷ Lt 7 2 5 ∷ Jz 7 22
    ∷ Get 8 49 ∷ Lt 7 6 8 ∷ Jz 7 22 ∷ Get 8 50 ∷ Out 8 ∷ Mov 9 4
    ∷ Add 2 2 3 ∷ Loop 10 12 ∷ Jz 9 26 ∷ Done ∷ Fail 1 ∷ []

-- none: 13
abbrev pub get_access_data_code : List Instr
get_access_data_code =
    Arg 0 0 ∷ Arg 1 1 ∷ Facc 2 0 1 ∷ Jz 2 13
    ∷ Get 3 36 ∷ Out 3 ∷ Get 3 37 ∷ Out 3 ∷ Get 3 38 ∷ Out 3 ∷ Get 3 39 ∷ Out 3
    ∷ Done ∷ Fail 1 ∷ []

-- none: 11
abbrev pub update_subscriber_data_code : List Instr
update_subscriber_data_code =
    Arg 0 0 ∷ Fsub 1 0 ∷ Jz 1 11 ∷ Arg 2 1 ∷ Put 2 2
    ∷ Arg 3 2 ∷ Ffac 1 0 3 ∷ Jz 1 11 ∷ Arg 4 3 ∷ Put 4 44
    ∷ Done ∷ Fail 1 ∷ []

-- none: 6
abbrev pub update_location_code : List Instr
update_location_code = Arg 0 0 ∷ Fnum 1 0 ∷ Jz 1 6 ∷ Arg 2 1 ∷ Put 2 33 ∷ Done ∷ Fail 1 ∷ []

-- bad: 13, parent: 17, none: 18
abbrev pub insert_call_forwarding_code : List Instr
insert_call_forwarding_code =
    Arg 0 0 ∷ Fnum 1 0 ∷ Jz 1 18 ∷ Get 2 0 ∷ Arg 3 1 ∷ Arg 4 2 ∷ Arg 5 3 ∷ Arg 6 4 ∷ Ins 7 2
    ∷ Ldi 8 1 ∷ Eq 8 7 8 ∷ Jz 8 13 ∷ Done
    ∷ Ldi 8 2 ∷ Eq 8 7 8 ∷ Jz 8 17 ∷ Fail 2
    ∷ Fail 3
    ∷ Fail 1 ∷ []

-- none: 10
abbrev pub delete_call_forwarding_code : List Instr
delete_call_forwarding_code =
    Arg 0 0 ∷ Fnum 1 0 ∷ Jz 1 10 ∷ Get 2 0 ∷ Arg 3 1 ∷ Arg 4 2 ∷ Fcfw 5 2 ∷ Jz 5 10 ∷ Del
    ∷ Done ∷ Fail 1 ∷ []

-- ---- the procedures, with their names and how many arguments they take
abbrev pub get_subscriber_data_procedure : Procedure
get_subscriber_data_procedure = record {
  name = codes "GET_SUBSCRIBER_DATA";
  arity = 1;
  code = get_subscriber_data_code;
}

abbrev pub get_new_destination_procedure : Procedure
get_new_destination_procedure = record {
  name = codes "GET_NEW_DESTINATION";
  arity = 4;
  code = get_new_destination_code;
}

abbrev pub get_access_data_procedure : Procedure
get_access_data_procedure = record {
  name = codes "GET_ACCESS_DATA";
  arity = 2;
  code = get_access_data_code;
}

abbrev pub update_subscriber_data_procedure : Procedure
update_subscriber_data_procedure = record {
  name = codes "UPDATE_SUBSCRIBER_DATA";
  arity = 4;
  code = update_subscriber_data_code;
}

abbrev pub update_location_procedure : Procedure
update_location_procedure = record {
  name = codes "UPDATE_LOCATION";
  arity = 2;
  code = update_location_code;
}

abbrev pub insert_call_forwarding_procedure : Procedure
insert_call_forwarding_procedure = record {
  name = codes "INSERT_CALL_FORWARDING";
  arity = 5;
  code = insert_call_forwarding_code;
}

abbrev pub delete_call_forwarding_procedure : Procedure
delete_call_forwarding_procedure = record {
  name = codes "DELETE_CALL_FORWARDING";
  arity = 3;
  code = delete_call_forwarding_code;
}

-- in the order of the benchmark's mix
abbrev pub standard_module : ModuleState
standard_module = record {
  version = Two;
  procedures =
      get_subscriber_data_procedure
      ∷ get_new_destination_procedure
      ∷ get_access_data_procedure
      ∷ update_subscriber_data_procedure
      ∷ update_location_procedure
      ∷ insert_call_forwarding_procedure
      ∷ delete_call_forwarding_procedure
      ∷ [];
}
