use Rattle.trace_text.proofs.Names.{◌≡◌, ◌++◌, ◌∷◌, [], length, set, get_or, rules, sym, subst, ap, ◌∙◌, append-nil, set-get_or, Asked, bytes_asked, line_asked, callers_asked, IsRowWithin}
use Rattle.trace_text.proofs.RowsLemmas.{rows_added, rows_within}
use Rattle.trace_text.proofs.rows.CallerRows.push.Goals as goal

pub invariant_of-self-in_err-push : goal.invariant_of-self-in_err-push
invariant_of-self-in_err-push c =
    let now : c.extend_from_slice.new.self.items ≡ c.self.inside.bytes.items ++ bytes_asked (line_asked c.args.line.now) = search rules in
    rows_within _ _ _ _ _ _ c.index_mut.result.now c.push.new.self [] now c.self.view_is c.self.invariant c.requires c.index_mut.ensures.value (c.in_err-push.ensures.items ∙ sym (append-nil _)) tt

pub returns-in_err-push-clause-err : goal.returns-in_err-push-clause-err
returns-in_err-push-clause-err c =
    let now : c.extend_from_slice.new.self.items ≡ c.self.inside.bytes.items ++ bytes_asked (line_asked c.args.line.now) = search rules in
    let all : callers_asked c.extend_from_slice.new.self.items (set c.self.inside.callers.items c.args.caller c.push.new.self) ≡ c.args.self.now =
    rows_added _ _ _ _ _ _ c.index_mut.result.now c.push.new.self [] now c.self.view_is c.self.invariant c.requires c.index_mut.ensures.value (c.in_err-push.ensures.items ∙ sym (append-nil _))
    ∙ ap (set c.args.self.now c.args.caller) (append-nil _) ∙ set-get_or c.args.self.now c.args.caller [] in
    search (rules, all)

pub invariant_of-self-2 : goal.invariant_of-self-2
invariant_of-self-2 c =
    let now : c.extend_from_slice.new.self.items ≡ c.self.inside.bytes.items ++ bytes_asked (line_asked c.args.line.now) = search rules in
    let end : c.len.result ≡ length c.extend_from_slice.new.self.items = search rules in
    rows_within _ _ _ _ _ _ c.index_mut.result.now c.push.new.self (c.of-row.result ∷ []) now c.self.view_is c.self.invariant c.requires c.index_mut.ensures.value c.in_ok-push.ensures.items
    (subst (λ k. IsRowWithin k c.of-row.result) end c.of-row.ensures.within, tt)

pub returns-clause-ok : goal.returns-clause-ok
returns-clause-ok c =
    let now : c.extend_from_slice.new.self.items ≡ c.self.inside.bytes.items ++ bytes_asked (line_asked c.args.line.now) = search rules in
    let start : length c.self.inside.bytes.items ≡ c.len-start.result = search rules in
    rows_added _ _ _ _ _ _ c.index_mut.result.now c.push.new.self (c.of-row.result ∷ []) now c.self.view_is c.self.invariant c.requires c.index_mut.ensures.value c.in_ok-push.ensures.items
    ∙ ap (λ (asked : Asked). set c.args.self.now c.args.caller (get_or c.args.self.now c.args.caller [] ++ asked ∷ [])) (c.of-row.ensures.asked c.self.inside.bytes.items start)
