-- `line::form::read_form` meets its contract. Assumes nothing.
use Rattle.line.proofs.CodeLaws.{arm_flag, arm_var, arm_var_or_absent, arm_int, arm_float, arm_text, arm_alias, arm_number}
use Rattle.line.proofs.form.read_form.Goals as goal

pub returns-in-Flag : goal.returns-in-Flag
returns-in-Flag c = arm_flag c.in-Flag.is c.number.ensures

pub returns-in-Var : goal.returns-in-Var
returns-in-Var c = arm_var c.in-Var.is c.number-in-Var.ensures

pub returns-in-VarOrAbsent : goal.returns-in-VarOrAbsent
returns-in-VarOrAbsent c = arm_var_or_absent c.in-VarOrAbsent.is c.variable.ensures

pub returns-in-Int : goal.returns-in-Int
returns-in-Int c = arm_int c.in-Int.is c.int.ensures

pub returns-in-Float : goal.returns-in-Float
returns-in-Float c = arm_float c.in-Float.is c.float.ensures

pub returns-in-Text : goal.returns-in-Text
returns-in-Text c = arm_text c.in-Text.is c.text.ensures

pub returns-in-Alias : goal.returns-in-Alias
returns-in-Alias c = arm_alias c.in-Alias.is c.alias.ensures

pub returns-in-Number : goal.returns-in-Number
returns-in-Number c = arm_number c.in-Number.is c.number-in-Number.ensures

pub returns-in-Span : goal.returns-in-Span
returns-in-Span c = rw c.in-Span.is c.span.ensures

pub returns-in-Length : goal.returns-in-Length
returns-in-Length c = rw c.in-Length.is c.hops.ensures
