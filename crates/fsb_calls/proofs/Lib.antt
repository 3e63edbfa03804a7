mod Clauses
mod Completed
mod Promises
mod Statuses
