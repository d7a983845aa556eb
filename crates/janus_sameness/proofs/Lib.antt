mod Lists
mod Statements
