mod Tokens
mod Table
mod ProcedureTable
mod AllParts
mod Rules
mod ProcedureRules
mod Theorems
