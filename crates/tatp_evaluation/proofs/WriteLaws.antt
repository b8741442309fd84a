-- The changes of a home are those of the transactions that write.
use Rattle.std.specs.Prelude.{◌≡◌, ℕ, true, [], ◌∷◌, Option, Some, None, Result, Ok, Err, is_some}
use Rattle.std.specs.Option.{option_map}
use Rattle.std.proofs.Common.{refl, sym, ap, ◌∙◌, arith, true≢false}
use Rattle.std.proofs.lemmas.Bool.{and_parts}
use Rattle.tatp_tables.specs.Tuples.{Tuple}
use Rattle.tatp_tables.specs.Keys.{has_key, row_at, row_with_number}
use Rattle.tatp_tables.specs.Domains.{is_in_domain, are_in_domain}
use Rattle.tatp_tables.specs.Database.{Database}
use Rattle.tatp_tables.specs.declared.table.Table.TheVariants.{Subscriber}
use Rattle.tatp_tables.proofs.KeyLaws.{key_is, first_is, has-found}
use Rattle.tatp_homes.specs.Home.{SubscriberRows, IsHome}
use Rattle.tatp_homes.specs.Changes.{put_rows, put_tables, insert_answer_at, insert_answer, insert_rows_at, insert_tables, delete_answer_at, delete_answer, delete_tables}
use Rattle.tatp_homes.specs.declared.refusal.Refusal.{Refusal}
use Rattle.tatp_numbers.specs.Homes.{s_id_of}
use Rattle.tatp_calls.specs.declared.reply.Reply.{Reply}
use Rattle.tatp_calls.specs.declared.reply.Reply.TheVariants.{Values, Failed}
use Rattle.tatp_calls.specs.Transactions.{updates_location, updates_both, inserts_under, inserts_for, deletes, deletes_for, update_location, update_subscriber_data, insert_call_forwarding, delete_call_forwarding}
use Rattle.tatp_procs.specs.Consistent.{IsConsistent}
use Rattle.tatp_procs.proofs.ConsistentLaws.{IsConsistent-home}
use Rattle.tatp_procs.proofs.ForwardingLaws.{s_id_fits, row_fits}
use Rattle.tatp_procs.proofs.HomeRowLaws.{no_child, found_by_key, row_length}
use Rattle.tatp_evaluation.specs.Failures.{insert_failure}

-- ---- what is replied to the answer of a change
abbrev pub reply_to_insert : Result (Unit {0}) Refusal → Reply
reply_to_insert (Ok done) = Values []
reply_to_insert (Err refusal) = Failed (insert_failure refusal)

abbrev pub reply_to_delete : Result Tuple Refusal → Reply
reply_to_delete (Ok row) = Values []
reply_to_delete (Err refusal) = Failed 1

-- ---- by the rows that are found
insert_replies : (u : Database) (row : Tuple) (parent there : Option Tuple) → reply_to_insert (insert_answer_at true parent there) ≡ (inserts_under u row parent there).reply
insert_replies u row None there = refl
insert_replies u row (Some facility) (Some other) = refl
insert_replies u row (Some facility) None = refl

insert_leaves : (u : Database) (row : Tuple) (parent there : Option Tuple) → record u { forwardings = insert_rows_at u.forwardings row (insert_answer_at true parent there) } ≡ (inserts_under u row parent there).database
insert_leaves u row None there = refl
insert_leaves u row (Some facility) (Some other) = refl
insert_leaves u row (Some facility) None = refl

delete_replies : (u : Database) (there : Option Tuple) → reply_to_delete (delete_answer_at there) ≡ (deletes u there).reply
delete_replies u None = refl
delete_replies u (Some row) = refl

module _ (home : SubscriberRows) (is : IsHome home) where
  consistent : IsConsistent home.tables
  consistent = IsConsistent-home home is

  -- ---- the subscriber with the number is the home's
  number_own : (n : ℕ) (row : Tuple) → row_with_number home.tables.subscribers n ≡ Some row → has_key (home.s_id ∷ []) row ≡ true
  number_own n row e = is.own Subscriber row (has-found _ home.tables.subscribers row e)

  number_found : (n : ℕ) (row : Tuple) → row_with_number home.tables.subscribers n ≡ Some row → row_at home.tables.subscribers (home.s_id ∷ []) ≡ Some row
  number_found n row e = ap (row_at home.tables.subscribers) (sym (key_is (home.s_id ∷ []) row (number_own n row e)))
      ∙ found_by_key Subscriber home.tables row consistent (has-found _ home.tables.subscribers row e)

  named : (n : ℕ) → is_some (row_with_number home.tables.subscribers n) ≡ true → option_map s_id_of (row_with_number home.tables.subscribers n) ≡ Some home.s_id
  named n there = elim (row_with_number home.tables.subscribers n) as (λ o. row_with_number home.tables.subscribers n ≡ o → is_some o ≡ true → option_map s_id_of o ≡ Some home.s_id) [
    | None ↦ λ e h. absurd (true≢false (sym h))
    | Some row ↦ λ e h. ap Some (first_is home.s_id row (number_own n row e))
  ] refl there

  -- ---- UPDATE_LOCATION
  pub location_leaves : (n v : ℕ) → is_some (row_with_number home.tables.subscribers n) ≡ true → is_in_domain 33 v ≡ true
      → put_tables home.tables 33 (home.s_id ∷ 0 ∷ 0 ∷ []) v ≡ (update_location home.tables n v).database
  location_leaves n v there fits = elim (row_with_number home.tables.subscribers n) as (λ o. row_with_number home.tables.subscribers n ≡ o → is_some o ≡ true → put_tables home.tables 33 (home.s_id ∷ 0 ∷ 0 ∷ []) v ≡ (updates_location home.tables v o).database) [
    | None ↦ λ e h. absurd (true≢false (sym h))
    | Some row ↦ λ e h i. record home.tables { subscribers = put_rows 33 (fits i) v home.tables.subscribers (number_found n row e i) }
  ] refl there

  -- ---- UPDATE_SUBSCRIBER_DATA
  pub record Updates (s x k y : ℕ) : Type 0 where
    pub reply : Values [] ≡ (update_subscriber_data home.tables s x k y).reply
    pub rows : put_tables (put_tables home.tables 2 (s ∷ 0 ∷ 0 ∷ []) x) 44 (s ∷ k ∷ 0 ∷ []) y ≡ (update_subscriber_data home.tables s x k y).database

  pub updates : (s x k y : ℕ) → is_some (row_at home.tables.facilities (s ∷ k ∷ [])) ≡ true → is_in_domain 2 x ≡ true → is_in_domain 44 y ≡ true → Updates s x k y
  updates s x k y there fits fits' =
      elim (row_at home.tables.subscribers (s ∷ [])) as (λ o. row_at home.tables.subscribers (s ∷ []) ≡ o → Updates s x k y) [
        | None ↦ λ e. absurd (true≢false (sym there ∙ ap is_some (no_child home.tables.subscribers home.tables.facilities s (k ∷ []) is.parents.of_facilities e)))
        | Some row ↦ λ e. elim (row_at home.tables.facilities (s ∷ k ∷ [])) as (λ o. row_at home.tables.facilities (s ∷ k ∷ []) ≡ o → is_some o ≡ true → Updates s x k y) [
          | None ↦ λ f h. absurd (true≢false (sym h))
          | Some facility ↦ λ f h. record {
            reply = λ i. (updates_both home.tables x y (sym e i) (sym f i)).reply;
            rows = (λ i. record home.tables {
              subscribers = put_rows 2 (fits i) x home.tables.subscribers (e i);
              facilities = put_rows 4 (fits' i) y home.tables.facilities (f i);
            }) ∙ (λ i. (updates_both home.tables x y (sym e i) (sym f i)).database);
          }
        ] refl there
      ] refl

  -- ---- INSERT_CALL_FORWARDING
  pub record Inserts (n k b e x : ℕ) : Type 0 where
    pub reply : reply_to_insert (insert_answer home.tables (home.s_id ∷ k ∷ b ∷ e ∷ x ∷ [])) ≡ (insert_call_forwarding home.tables n k b e x).reply
    pub rows : insert_tables home.tables (home.s_id ∷ k ∷ b ∷ e ∷ x ∷ []) ≡ (insert_call_forwarding home.tables n k b e x).database

  own_fits : (n : ℕ) → is_some (row_with_number home.tables.subscribers n) ≡ true → is_in_domain 0 home.s_id ≡ true
  own_fits n there = elim (row_with_number home.tables.subscribers n) as (λ o. row_with_number home.tables.subscribers n ≡ o → is_some o ≡ true → is_in_domain 0 home.s_id ≡ true) [
    | None ↦ λ e h. absurd (true≢false (sym h))
    | Some row ↦ λ e h.
        let stands = has-found _ home.tables.subscribers row e in
        ap (is_in_domain 0) (sym (first_is home.s_id row (number_own n row e)))
        ∙ s_id_fits row (omega (arith, row_length Subscriber home.tables row consistent stands)) (and_parts _ (are_in_domain 0 row) (is.rows Subscriber row stands)).1
  ] refl there

  pub inserts : (n k b e x : ℕ) → is_some (row_with_number home.tables.subscribers n) ≡ true → is_in_domain 41 k ≡ true → is_in_domain 48 b ≡ true → is_in_domain 49 e ≡ true → is_in_domain 50 x ≡ true → Inserts n k b e x
  inserts n k b e x there fk fb fe fx =
      let row : Tuple = home.s_id ∷ k ∷ b ∷ e ∷ x ∷ [] in
      let parent : Option Tuple = row_at home.tables.facilities (home.s_id ∷ k ∷ []) in
      let other : Option Tuple = row_at home.tables.forwardings (home.s_id ∷ k ∷ b ∷ []) in
      let fits : are_in_domain 46 row ≡ true = row_fits home.s_id k b e x (own_fits n there) fk fb fe fx in
      record {
        reply = ap (λ c. reply_to_insert (insert_answer_at c parent other)) fits ∙ (insert_replies home.tables row parent other ∙ ap (λ o. (inserts_for home.tables k b e x o).reply) (sym (named n there)));
        rows = ap (λ c. record home.tables { forwardings = insert_rows_at home.tables.forwardings row (insert_answer_at c parent other) }) fits
            ∙ (insert_leaves home.tables row parent other ∙ ap (λ o. (inserts_for home.tables k b e x o).database) (sym (named n there)));
      }

  -- ---- DELETE_CALL_FORWARDING
  pub record Deletes (n k b : ℕ) : Type 0 where
    pub reply : reply_to_delete (delete_answer home.tables (home.s_id ∷ k ∷ b ∷ [])) ≡ (delete_call_forwarding home.tables n k b).reply
    pub rows : delete_tables home.tables (home.s_id ∷ k ∷ b ∷ []) ≡ (delete_call_forwarding home.tables n k b).database

  delete_leaves : (key : ℕ) (k b : ℕ) (there : Option Tuple) → row_at home.tables.forwardings (key ∷ k ∷ b ∷ []) ≡ there → delete_tables home.tables (key ∷ k ∷ b ∷ []) ≡ (deletes home.tables (row_at home.tables.forwardings (key ∷ k ∷ b ∷ []))).database
  delete_leaves key k b None e = rw e refl
  delete_leaves key k b (Some row) e = rw e refl

  pub removes : (n k b : ℕ) → is_some (row_with_number home.tables.subscribers n) ≡ true → Deletes n k b
  removes n k b there = record {
    reply = delete_replies home.tables (row_at home.tables.forwardings (home.s_id ∷ k ∷ b ∷ [])) ∙ ap (λ o. (deletes_for home.tables k b o).reply) (sym (named n there));
    rows = delete_leaves home.s_id k b (row_at home.tables.forwardings (home.s_id ∷ k ∷ b ∷ [])) refl ∙ ap (λ o. (deletes_for home.tables k b o).database) (sym (named n there));
  }
