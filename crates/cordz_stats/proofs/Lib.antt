mod Forms
mod Walks
mod Totals
mod Memory
mod Opening
mod Rows
